-- The states of the calls are reached by steps, so that they are sane, and a call stops at a step that refuses 33 and at no other.
-- Assumes nothing.
use Prim.Native.Nat.{ℕ, zero, suc, ◌-◌, ◌+◌}
use mathlib.Core.Path.{◌≡◌, refl, sym, ap, ◌∙◌}
use mathlib.Core.Bool.{Bool, true, false, cond, false≢true}
use mathlib.Core.List.{List}
use native.Mathlib.Omega.{arith}
use lib.Dec.{ltb}
use lib.ListN.{length, drop}
use Rattle.format.specs.declared.Reading.{Reading}
use Rattle.reader.specs.Window.{window_of}
use Rattle.walk.specs.declared.Walk.{Walk}
use Rattle.walk.specs.declared.Stepped.{Stepped}
use Rattle.walk.specs.declared.Answer.{Answer}
use Rattle.walk.specs.declared.Answer.TheVariants.{Frame, WantsMore, Refused}
use Rattle.walk.specs.Walk.{frame_size, put, sound_of, countable, judge_of, more_of, done_of, moved_by, moved_of, step_of}
use Rattle.walk.proofs.Cases.{step-30, step-33, step-moves}
use Rattle.demand.specs.Promises.{Reached, start, next}
use Rattle.demand.proofs.Demand3.{walk-never-30}
use Rattle.lines.specs.Lines.{line_of}
use Rattle.lines.specs.Blocks.{refuses_of, stops_of, Block, Sane, block_of}
use Rattle.lines.proofs.Moves.{step-moved}
use Rattle.lines.proofs.Turns.{turn, after, block-used, block-full, block-step}

pub reached-sane : {rd : Reading} {w : Walk} → Reached (window_of rd) rd w → Sane w
reached-sane start = record { bytes = omega arith; counted = omega arith }
reached-sane {rd} (next {w = w} p r) = (step-moved (window_of rd) w p).sane (reached-sane r)

-- a call's end: its state is reached, and where it stopped the step from there on refuses
pub record Reaches (rd : Reading) (b : List ℕ) (r : Block) : Type 0 where
  pub reached : Reached (window_of rd) rd r.state
  pub refuses : stops_of r.why ≡ true → refuses_of (step_of (window_of rd) r.state (drop r.from b)).answer ≡ true

reaches-after : (rd : Reading) (q : Bool) (k room : ℕ) (w : Walk) (b : List ℕ) (i : ℕ) → Reached (window_of rd) rd w
    → ((rm : ℕ) → Reaches rd b (block_of q (window_of rd) k rm (step_of (window_of rd) w (drop i b)).state b (i + (step_of (window_of rd) w (drop i b)).used)))
    → (a : Answer) → (step_of (window_of rd) w (drop i b)).answer ≡ a → Reaches rd b (after q (window_of rd) a k room (step_of (window_of rd) w (drop i b)) w b i)
reaches-after rd q k room w b i R IH (Frame at size what) e =
    let r = IH (room - length (line_of q (record { at = at; size = size; what = what }))) in
    record { reached = r.reached; refuses = r.refuses }
reaches-after rd q k room w b i R IH WantsMore e = IH room
reaches-after rd q k room w b i R IH (Refused n) e = record { reached = R; refuses = λ _. rw e }

pub reaches : (rd : Reading) (q : Bool) (k room : ℕ) (w : Walk) (b : List ℕ) (i : ℕ) → Reached (window_of rd) rd w → Reaches rd b (block_of q (window_of rd) k room w b i)
unfolding block_of
reaches rd q zero room w b i R = record { reached = R; refuses = λ e. absurd (false≢true e) }
reaches rd q (suc k) room w b i R =
    turn b i room
    (λ le. rw (block-used q (window_of rd) (suc k) room w b i le) (record { reached = R; refuses = λ e. absurd (false≢true e) }))
    (λ lt r. rw (block-full q (window_of rd) k room w b i lt r) (record { reached = R; refuses = λ e. absurd (false≢true e) }))
    (λ lt r.
    let st = step_of (window_of rd) w (drop i b) in
    rw (block-step q (window_of rd) k room w b i st lt r refl)
    (reaches-after rd q k room w b i R (λ rm. reaches rd q k rm st.state b (i + st.used) (next (drop i b) R)) st.answer refl))

-- a step that moves does not refuse
moves : (rd : Reading) (w : Walk) (p : List ℕ) → refuses_of (moved_of (window_of rd) w p).answer ≡ false
unfolding moved_of moved_by done_of
moves rd w p = go (put w.held w.seen p) (ltb (w.seen + length p) (frame_size (put w.held w.seen p)))
  where
    go : (h : List ℕ) (x : Bool)
        → refuses_of (cond x (more_of w h (length p)) (done_of w (frame_size h - w.seen) (frame_size h) (judge_of (window_of rd) h (frame_size h)))).answer ≡ false
    go h true = refl
    go h false = refl

-- in a reached state a refusal is 33
pub refused-33 : (rd : Reading) (w : Walk) (p : List ℕ) → Reached (window_of rd) rd w → refuses_of (step_of (window_of rd) w p).answer ≡ true → (step_of (window_of rd) w p).answer ≡ Refused 33
refused-33 rd w p R e = sound (sound_of w) refl
  where
    room : (x : Bool) → sound_of w ≡ true → countable w.offset w.seen (length p) ≡ x → (step_of (window_of rd) w p).answer ≡ Refused 33
    room false s r = ap (λ (y : Stepped). y.answer) (sym (step-33 (window_of rd) w p s r))
    room true s r = absurd (false≢true (sym (moves rd w p) ∙ ap (λ (y : Stepped). refuses_of y.answer) (sym (step-moves (window_of rd) w p s r)) ∙ e))

    sound : (x : Bool) → sound_of w ≡ x → (step_of (window_of rd) w p).answer ≡ Refused 33
    sound false s = absurd (walk-never-30 rd w p R (ap (λ (y : Stepped). y.answer) (sym (step-30 (window_of rd) w p s))))
    sound true s = room (countable w.offset w.seen (length p)) s refl
