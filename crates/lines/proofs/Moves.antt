-- What a step does, whatever the state: the bytes that it uses, and what it keeps.
-- Assumes nothing.
use Prim.Native.Nat.{ℕ, ◌≤◌, ◌<◌, ◌-◌, ◌+◌}
use mathlib.Core.Path.{◌≡◌, refl, sym}
use mathlib.Core.Bool.{Bool, true, false, false≢true}
use mathlib.Core.List.{List}
use native.Mathlib.Omega.{arith}
use borrow.Author.Tests.{ltb-true, ltb-false}
use lib.ListN.{length}
use lib.Dec.{ltb}
use Rattle.reader.specs.Window.{Window}
use Rattle.walk.specs.declared.Walk.{Walk}
use Rattle.walk.specs.declared.Stepped.{Stepped}
use Rattle.walk.proofs.Held.{put-started}
use Rattle.walk.proofs.Cases.{ready_gives, step-30, step-33, step-moves, moved_more, moved-done, count-one}
use Rattle.walk.specs.Walk.{sound_of, countable, step_of, moved_of, done_of, judge_of, more_of, refused_of, frame_size, put, Ready, Verdict}
use Rattle.lines.specs.Blocks.{refuses_of, Sane}

-- the three kinds of a step
pub data View (w : Walk) (p : List ℕ) : Stepped → Type 0 where
  refuses : (n : ℕ) → View w p (refused_of w n)
  more : (h : List ℕ) → Ready w (length p) → w.seen + length p < frame_size h → View w p (more_of w h (length p))
  done : (h : List ℕ) (v : Verdict) → Ready w (length p) → w.seen < frame_size h → frame_size h ≤ w.seen + length p
      → View w p (done_of w (frame_size h - w.seen) (frame_size h) v)

pub view : (win : List ℕ → Window) (w : Walk) (p : List ℕ) → View w p (step_of win w p)
view win w p = sound (sound_of w) refl
  where
    moved : (r : Ready w (length p)) → (b : Bool) → ltb (w.seen + length p) (frame_size (put w.held w.seen p)) ≡ b → View w p (moved_of win w p)
    moved r true e =
        let lt = ltb-true _ _ e in
        rw (← moved_more win w p (put w.held w.seen p) (frame_size (put w.held w.seen p)) refl refl lt) (more _ r lt)
    moved r false e =
        let le = ltb-false _ _ e in
        let x = put w.held w.seen p in
        rw (← moved-done win w p (frame_size x) (judge_of win x (frame_size x)) (done_of w (frame_size x - w.seen) (frame_size x) (judge_of win x (frame_size x))) refl le refl refl)
        (done x (judge_of win x (frame_size x)) r (put-started w.held w.seen p r.started) le)

    room : (b : Bool) → sound_of w ≡ true → countable w.offset w.seen (length p) ≡ b → View w p (step_of win w p)
    room false s r = rw (← step-33 win w p s r) (refuses 33)
    room true s r = rw (step-moves win w p s r) (moved (ready_gives w (length p) s r) (ltb (w.seen + length p) (frame_size (put w.held w.seen p))) refl)

    sound : (b : Bool) → sound_of w ≡ b → View w p (step_of win w p)
    sound false s = rw (← step-30 win w p s) (refuses 30)
    sound true s = room (countable w.offset w.seen (length p)) s refl

pub record Moved (w : Walk) (p : List ℕ) (st : Stepped) : Type 0 where
  pub within : st.used ≤ length p
  pub some : refuses_of st.answer ≡ false → 0 < length p → 0 < st.used
  pub bytes : st.state.offset + st.state.seen ≡ w.offset + w.seen + st.used
  pub sane : Sane w → Sane st.state

moved-of : {w : Walk} {p : List ℕ} {st : Stepped} → View w p st → Moved w p st
unfolding done_of
moved-of (refuses n) = record { within = omega arith; some = λ e. absurd (false≢true (sym e)); bytes = omega arith; sane = λ s. s }
moved-of (more h r lt) = record { within = omega arith; some = λ e z. z; bytes = omega arith; sane = λ s. record { bytes = omega (arith, r.room); counted = s.counted } }
moved-of {w} (done h v r lt le) =
    record {
      within = omega arith;
      some = λ e z. omega arith;
      bytes = omega arith;
      sane = λ s. record { bytes = omega (arith, r.room); counted = omega (arith, s.counted, count-one v) };
    }

pub step-moved : (win : List ℕ → Window) (w : Walk) (p : List ℕ) → Moved w p (step_of win w p)
step-moved win w p = moved-of (view win w p)
