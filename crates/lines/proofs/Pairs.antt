-- The table of digits: the two digits of each number below 100.
-- Assumes nothing.
use Prim.Native.Nat.{ℕ, zero, suc, ◌+◌, ◌*◌, ◌/◌, ◌%◌, ◌<◌}
use mathlib.Core.Path.{◌≡◌, refl}
use native.Mathlib.Omega.{arith}
use native.Mathlib.Nat.{add-zero, zero-add}
use lib.ListN.{get_or}
use Rattle.lines.specs.Whole.{pairs_from, pairs}

pair-at : (k n i : ℕ) → i < k → (get_or (pairs_from k n) (i * 2) 0 ≡ 48 + (n + i) / 10) × (get_or (pairs_from k n) (i * 2 + 1) 0 ≡ 48 + (n + i) % 10)
unfolding pairs_from
pair-at zero n i h = absurd (omega arith)
pair-at (suc k) n zero h = rw (add-zero n) (refl, refl)
pair-at (suc k) n (suc i) h =
    let e : suc i * 2 ≡ suc (suc (i * 2)) = omega arith in
    let f : suc i * 2 + 1 ≡ suc (suc (i * 2 + 1)) = omega arith in
    let g : n + suc i ≡ suc n + i = omega arith in
    rw (f, e, g) (pair-at k (suc n) i (omega arith))

pub pairs-at : (n : ℕ) → n < 100 → (get_or pairs (n * 2) 0 ≡ 48 + n / 10) × (get_or pairs (n * 2 + 1) 0 ≡ 48 + n % 10)
unfolding pairs
pairs-at n h = rw (zero-add n) at (pair-at 100 0 n h)
