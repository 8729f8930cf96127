-- The cases of 30, 33 and the step, over the values that the code has where it returns; the theorems on the walk go by them too.
-- Assumes nothing.
use Prim.Native.Nat.{ℕ, zero, suc, ◌≤◌, ◌<◌, ◌-◌, ◌+◌, ◌*◌, min}
use mathlib.Core.Path.{◌≡◌}
use mathlib.Core.Bool.{true, false}
use mathlib.Core.List.{List}
use native.Mathlib.Omega.{arith}
use borrow.Author.Tests.{leb-true, lt-ltb, le-ltb, ltb-true, le-leb}
use lib.ListN.{length}
use Rattle.std.specs.Prelude.{Ok, Err}
use Rattle.format.proofs.Tests.{and_split}
use Rattle.reader.specs.Window.{Window}
use Rattle.walk.specs.declared.Walk.{Walk}
use Rattle.walk.specs.declared.Stepped.{Stepped}
use Rattle.walk.specs.Walk.{frame_size, count_of, zero_from, sound_of, countable, Ready, put, judge_of, done_of, more_of, refused_of, moved_by, moved_of, step_of, Verdict}
use Rattle.walk.proofs.Held.{put_front}

pub count-one : (v : Verdict) → count_of v ≤ 1
count-one (Ok m) = omega arith
count-one (Err r) = omega arith

-- ---- 30

pub sound-rest : (w : Walk) → w.seen < frame_size w.held → 2 * w.frames ≤ w.offset → w.accepted ≤ w.frames
    → sound_of w ≡ zero_from w.held w.seen
unfolding sound_of
sound-rest w h k m =
    rw (lt-ltb w.seen (frame_size w.held) h, le-leb (2 * w.frames) w.offset k, le-leb w.accepted w.frames m)

-- what the test for 30 shows where it passes
pub sound-says : (w : Walk) → sound_of w ≡ true
    → (w.seen < frame_size w.held) × (2 * w.frames ≤ w.offset) × (w.accepted ≤ w.frames) × (zero_from w.held w.seen ≡ true)
unfolding sound_of
sound-says w s =
    let p = and_split _ _ s in
    let q = and_split _ _ p.0 in
    let t = and_split _ _ q.0 in
    (ltb-true _ _ t.0, leb-true _ _ t.1, leb-true _ _ q.1, p.1)

pub ready_gives : (w : Walk) (n : ℕ) → sound_of w ≡ true → countable w.offset w.seen n ≡ true → Ready w n
ready_gives w n s r =
    let q = sound-says w s in
    record { started = q.0; room = ltb-true _ _ r; two = q.1; counted = q.2 }

-- ---- the step, over any window's answer

module _ (win : List ℕ → Window) where
  -- a frame that began in the piece is judged by the piece's own bytes
  pub judge-own : (seen : ℕ) (h p : List ℕ) (size : ℕ) → length h ≡ 52 → seen ≡ 0 → size ≤ seen + length p
      → judge_of win p size ≡ judge_of win (put h seen p) size
  unfolding judge_of
  judge-own zero h p size l e le = rw (put_front (min size 52) h p (omega arith) (omega arith))
  judge-own (suc seen) h p size l e le = absurd (omega arith)

  pub moved_more : (w : Walk) (p h : List ℕ) (size : ℕ) → h ≡ put w.held w.seen p → size ≡ frame_size (put w.held w.seen p)
      → w.seen + length p < size → more_of w h (length p) ≡ moved_of win w p
  unfolding moved_of moved_by
  moved_more w p h size e z lt =
      rw (e, lt-ltb (w.seen + length p) (frame_size (put w.held w.seen p)) (omega arith))

  pub moved-done : (w : Walk) (p : List ℕ) (size : ℕ) (v : Verdict) (r : Stepped) → size ≡ frame_size (put w.held w.seen p)
      → size ≤ w.seen + length p → v ≡ judge_of win (put w.held w.seen p) size → r ≡ done_of w (size - w.seen) size v
      → r ≡ moved_of win w p
  unfolding moved_of moved_by
  moved-done w p size v r z le j d =
      rw (le-ltb (w.seen + length p) (frame_size (put w.held w.seen p)) (omega arith), ← z, ← j) d

  pub step-moves : (w : Walk) (p : List ℕ) → sound_of w ≡ true → countable w.offset w.seen (length p) ≡ true
      → step_of win w p ≡ moved_of win w p
  unfolding step_of
  step-moves w p s r = rw (s, r)

  pub step-30 : (w : Walk) (p : List ℕ) → sound_of w ≡ false → refused_of w 30 ≡ step_of win w p
  unfolding step_of
  step-30 w p s = rw s

  pub step-33 : (w : Walk) (p : List ℕ) → sound_of w ≡ true → countable w.offset w.seen (length p) ≡ false
      → refused_of w 33 ≡ step_of win w p
  unfolding step_of
  step-33 w p s r = rw (s, r)
