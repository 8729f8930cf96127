-- What a call over a block keeps, and how far it comes.
-- Assumes nothing.
use Prim.Native.Nat.{ℕ, zero, suc, ◌≤◌, ◌<◌, ◌-◌, ◌+◌}
use mathlib.Core.Path.{◌≡◌, refl, sym, ◌∙◌}
use mathlib.Core.Bool.{Bool, true, false, false≢true}
use mathlib.Core.List.{List}
use native.Mathlib.Omega.{arith}
use lib.ListN.{length, drop, length-drop}
use Rattle.reader.specs.Window.{Window}
use Rattle.walk.specs.declared.Walk.{Walk}
use Rattle.walk.specs.declared.Stepped.{Stepped}
use Rattle.walk.specs.declared.Answer.{Answer}
use Rattle.walk.specs.declared.Answer.TheVariants.{Frame, WantsMore, Refused}
use Rattle.walk.specs.Walk.{step_of}
use Rattle.walk.specs.Frames.{Entry}
use Rattle.lines.specs.declared.Why.{Why}
use Rattle.lines.specs.declared.Why.TheVariants.{Used, Full, Stopped}
use Rattle.lines.specs.Lines.{line_of}
use Rattle.lines.specs.Blocks.{longest, refuses_of, stops_of, Block, Sane, stopped, telling, block_of}
use Rattle.lines.proofs.Moves.{Moved, step-moved}
use Rattle.lines.proofs.Turns.{turn, after, block-used, block-full, block-step, block_refused, uses}

-- from w at place i of a block of n bytes
pub record Kept (w : Walk) (n i : ℕ) (r : Block) : Type 0 where
  pub ahead : i ≤ r.from
  pub within : r.from ≤ n
  pub bytes : r.state.offset + r.state.seen + i ≡ w.offset + w.seen + r.from
  pub sane : Sane w → Sane r.state

kept-stopped : (w : Walk) (n i : ℕ) (y : Why) → i ≤ n → Kept w n i (stopped w i y)
kept-stopped w n i y h = record { ahead = omega arith; within = h; bytes = refl; sane = λ s. s }

kept_step : (w w' : Walk) (n i u : ℕ) (r : Block) → w'.offset + w'.seen ≡ w.offset + w.seen + u → (Sane w → Sane w') → Kept w' n (i + u) r → Kept w n i r
kept_step w w' n i u r e s K =
    record { ahead = omega (arith, K.ahead); within = K.within; bytes = omega (arith, K.bytes); sane = λ x. K.sane (s x) }

kept-telling : (w : Walk) (n i : ℕ) (en : Entry) (r : Block) → Kept w n i r → Kept w n i (telling en r)
kept-telling w n i en r K = record { ahead = K.ahead; within = K.within; bytes = K.bytes; sane = K.sane }

module _ (quiet : Bool) (win : List ℕ → Window) where
  kept-after : (k room : ℕ) (w : Walk) (b : List ℕ) (i : ℕ) (st : Stepped) → i ≤ length b → Moved w (drop i b) st
      → ((room : ℕ) → Kept st.state (length b) (i + st.used) (block_of quiet win k room st.state b (i + st.used)))
      → (a : Answer) → Kept w (length b) i (after quiet win a k room st w b i)
  kept-after k room w b i st h m IH (Frame at size what) =
      kept-telling w (length b) i (record { at = at; size = size; what = what }) _
      (kept_step w st.state (length b) i st.used _ m.bytes m.sane (IH (room - length (line_of quiet (record { at = at; size = size; what = what })))))
  kept-after k room w b i st h m IH WantsMore = kept_step w st.state (length b) i st.used _ m.bytes m.sane (IH room)
  kept-after k room w b i st h m IH (Refused n) = kept-stopped w (length b) i Stopped h

  pub kept : (k room : ℕ) (w : Walk) (b : List ℕ) (i : ℕ) → i ≤ length b → Kept w (length b) i (block_of quiet win k room w b i)
  unfolding block_of
  kept zero room w b i h = kept-stopped w (length b) i Used h
  kept (suc k) room w b i h =
      turn b i room
      (λ le. rw (block-used quiet win (suc k) room w b i le) (kept-stopped w (length b) i Used h))
      (λ lt r. rw (block-full quiet win k room w b i lt r) (kept-stopped w (length b) i Full h))
      (λ lt r.
      let st = step_of win w (drop i b) in
      let m = step-moved win w (drop i b) in
      rw (block-step quiet win k room w b i st lt r refl)
      (kept-after k room w b i st h m (λ rm. kept k rm st.state b (i + st.used) (omega (arith, m.within, length-drop i b))) st.answer))

  -- a call into a buffer with room for a line goes on, unless a step refuses
  went-after : (k room : ℕ) (w : Walk) (b : List ℕ) (i : ℕ) (st : Stepped) → i + st.used ≤ length b → (a : Answer) → refuses_of a ≡ false
      → i + st.used ≤ (after quiet win a k room st w b i).from
  went-after k room w b i st h (Frame at size what) x =
      (kept k (room - length (line_of quiet (record { at = at; size = size; what = what }))) st.state b (i + st.used) h).ahead
  went-after k room w b i st h WantsMore x = (kept k room st.state b (i + st.used) h).ahead
  went-after k room w b i st h (Refused n) x = absurd (false≢true (sym x))

  pub went : (k room : ℕ) (w : Walk) (b : List ℕ) (i : ℕ) → i < length b → length b - i ≤ k → longest ≤ room
      → stops_of (block_of quiet win k room w b i).why ≡ false → i < (block_of quiet win k room w b i).from
  went zero room w b i h f r = absurd (omega arith)
  went (suc k) room w b i h f r = go (refuses_of (step_of win w (drop i b)).answer) refl
    where
      go : (x : Bool) → refuses_of (step_of win w (drop i b)).answer ≡ x → stops_of (block_of quiet win (suc k) room w b i).why ≡ false
          → i < (block_of quiet win (suc k) room w b i).from
      go true x s =
          let e : stops_of (block_of quiet win (suc k) room w b i).why ≡ true = rw (block_refused quiet win k room w b i (step_of win w (drop i b)) h r refl x) in
          absurd (false≢true (sym s ∙ e))
      go false x s =
          let u = uses win w b i (step_of win w (drop i b)) h refl x in
          let a = went-after k room w b i (step_of win w (drop i b)) u.1 (step_of win w (drop i b)).answer x in
          rw (block-step quiet win k room w b i (step_of win w (drop i b)) h r refl) (omega (arith, u.0, a))
