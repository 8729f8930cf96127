-- The walk of a whole recording by cases: bytes that make no whole frame are the tail, other bytes begin with a frame; and that frame sizes and the
-- tail add up to the recording.
-- Assumes nothing.
use Prim.Native.Nat.{ℕ, zero, suc, ◌≤◌, ◌<◌, ◌+◌}
use mathlib.Core.Path.{◌≡◌, refl, ap, ◌∙◌}
use mathlib.Core.List.{List, [], ◌∷◌, ◌++◌}
use mathlib.Core.Logic.{◌⊎◌, ⊎_elim}
use native.Mathlib.Omega.{arith}
use borrow.Author.Tests.{lt-ltb, le-ltb}
use lib.ListN.{length, take, drop, length-append, length-drop, drop_of_length-le, get_or-append}
use lib.Seq.{take-append-le}
use Rattle.format.proofs.Tests.{le-or-lt}
use Rattle.reader.specs.Window.{Window}
use Rattle.walk.specs.Walk.{frame_size, frame_of}
use Rattle.walk.specs.Frames.{tail_at, after, entry_at, walk_at, walk_of, sizes}

-- bytes begin with a whole frame, or they make none
pub whole? : (s : List ℕ) → (frame_size s ≤ length s) ⊎ (length s < frame_size s)
whole? s = le-or-lt (frame_size s) (length s)

-- two bytes say the size
pub size-append : (x y : List ℕ) → 2 ≤ length x → frame_size (x ++ y) ≡ frame_size x
size-append x y h = omega (arith, get_or-append x y 0 0 (omega arith), get_or-append x y 0 1 (omega arith))

-- bytes that make no whole frame are fewer than its size with more bytes behind them too
pub short-append : (q p : List ℕ) → length q < frame_size q → length q < frame_size (q ++ p)
short-append [] p h = omega arith
short-append (x ∷ []) p h = omega arith
short-append (x ∷ y ∷ q) p h = h

module _ (win : List ℕ → Window) where
  pub walk-zero : (s : List ℕ) (o : ℕ) → walk_at win zero s o ≡ tail_at s o
  unfolding walk_at
  walk-zero s o = refl

  pub walk-tail : (k : ℕ) (s : List ℕ) (o : ℕ) → length (drop o s) < frame_size (drop o s) → walk_at win k s o ≡ tail_at s o
  unfolding walk_at
  walk-tail zero s o h = refl
  walk-tail (suc k) s o h = rw (lt-ltb (length (drop o s)) (frame_size (drop o s)) h)

  pub walk-frame : (k : ℕ) (s : List ℕ) (o : ℕ) → frame_size (drop o s) ≤ length (drop o s)
      → walk_at win (suc k) s o ≡ after (entry_at win s o) (walk_at win k s (o + frame_size (drop o s)))
  unfolding walk_at
  walk-frame k s o h = rw (le-ltb (length (drop o s)) (frame_size (drop o s)) h)

  -- a frame's entry, by bytes x that reach past its end
  pub walk-frame-as : (m : ℕ) (s : List ℕ) (o : ℕ) (x r : List ℕ) → drop o s ≡ x ++ r → frame_size x ≤ length x
      → walk_at win (suc m) s o
      ≡ after (record { at = o; size = frame_size x; what = frame_of win (take (frame_size x) x) }) (walk_at win m s (o + frame_size x))
  walk-frame-as m s o x r e le =
      let z : frame_size (drop o s) ≡ frame_size x = ap frame_size e ∙ size-append x r (omega arith) in
      let l : length (drop o s) ≡ length x + length r = ap length e ∙ length-append x r in
      let t : take (frame_size x) (drop o s) ≡ take (frame_size x) x = ap (take (frame_size x)) e ∙ take-append-le (frame_size x) x r le in
      walk-frame m s o (omega arith) ∙ rw (z, t)

  -- ---- frame sizes and the tail add up

  sum-at : (k : ℕ) (s : List ℕ) (o : ℕ) → o ≤ length s → o + sizes (walk_at win k s o).entries + (walk_at win k s o).left ≡ length s
  unfolding sizes
  sum-at zero s o h = rw (walk-zero s o) (omega (arith, length-drop o s))
  sum-at (suc k) s o h =
      let l = length-drop o s in
      ⊎_elim
      (λ t. rw (walk-frame k s o t) (omega (arith, sum-at k s (o + frame_size (drop o s)) (omega arith))))
      (λ t. rw (walk-tail (suc k) s o t) (omega arith))
      (whole? (drop o s))

  pub summing : (s : List ℕ) → sizes (walk_of win s).entries + (walk_of win s).left ≡ length s
  summing s = omega (arith, sum-at (length s) s 0 (omega arith))

  -- ---- no whole frame is in the tail

  short-at : (k : ℕ) (s : List ℕ) (o : ℕ) → o ≤ length s → length s ≤ o + k
      → (walk_at win k s o).left < frame_size (drop (walk_at win k s o).tail s)
  short-at zero s o h f = let g : length s ≤ o = omega arith in rw (walk-zero s o, drop_of_length-le s g) (omega arith)
  short-at (suc k) s o h f =
      let l = length-drop o s in
      ⊎_elim
      (λ t. rw (walk-frame k s o t) (short-at k s (o + frame_size (drop o s)) (omega arith) (omega arith)))
      (λ t. rw (walk-tail (suc k) s o t) t)
      (whole? (drop o s))

  pub tail-short : (s : List ℕ) → (walk_of win s).left < frame_size (drop (walk_of win s).tail s)
  tail-short s = short-at (length s) s 0 (omega arith) (omega arith)
