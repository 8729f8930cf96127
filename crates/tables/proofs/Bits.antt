-- The bits of a mask: bit k of a byte's mask is 1 where the byte is in the k-th set, once for any row of sets.
-- Assumes nothing.
use mathlib.Core.Path.{◌≡◌, sym, ap, ◌∙◌}
use mathlib.Core.Bool.{Bool, true, false, cond, not}
use mathlib.Core.List.{List, [], ◌∷◌}
use Prim.Native.Nat.{ℕ, zero, suc, ◌+◌, ◌*◌, ◌-◌, ◌^◌, ◌/◌, ◌%◌}
use native.Mathlib.Nat.{zero-div, div-one, one-mul, zero-mul}
use native.Mathlib.Omega.{arith}
use lib.Dec.{eqb}
use lib.Pow.{pow_pos, shr-shr, high_ones}
use lib.Bits.{bit_and, and_high}
use borrow.Author.Tests.{ne_eqb}
use Rattle.format.specs.Codes.{sets}
use Rattle.format.specs.Layout.{member}
use Rattle.tables.specs.Masks.{nth, bits, mask_of}

one_bit : (t : Bool) (n : ℕ) → (n * 2 + cond t 1 0) % 2 ≡ cond t 1 0
one_bit true n = omega arith
one_bit false n = omega arith

half : (t : Bool) (n : ℕ) → (n * 2 + cond t 1 0) / 2 ≡ n
half true n = omega arith
half false n = omega arith

bit_at : (ls : List (List ℕ)) (b k : ℕ) → bits ls b / 2 ^ k % 2 ≡ cond (member b (nth ls k)) 1 0
bit_at [] b k = ap (λ n. n % 2) (zero-div (2 ^ k))
bit_at (l ∷ ls) b zero = rw div-one (one_bit (member b l) (bits ls b))
bit_at (l ∷ ls) b (suc k) =
    let h : bits (l ∷ ls) b / 2 ^ 1 / 2 ^ k ≡ bits (l ∷ ls) b / 2 ^ (1 + k) = shr-shr (bits (l ∷ ls) b) 1 k in
    let e : 1 + k ≡ suc k = omega arith in
    ap (λ n. n % 2) (ap (λ n. bits (l ∷ ls) b / 2 ^ n) (sym e) ∙ sym h ∙ ap (λ n. n / 2 ^ k) (half (member b l) (bits ls b))) ∙ bit_at ls b k

-- a mask and the bit of a set
alone : (m k : ℕ) → bit_and m (2 ^ k) ≡ (m / 2 ^ k % 2) * 2 ^ k
alone m k =
    let e : 2 ^ (1 + k) - 2 ^ k ≡ 2 ^ k = high_ones 1 k ∙ one-mul (2 ^ k) in
    rw e at (and_high m 1 k)

is_set : (t : Bool) (k : ℕ) → not (eqb (cond t 1 0 * 2 ^ k) 0) ≡ t
is_set true k = ap not (ne_eqb (1 * 2 ^ k) 0 (λ e. omega (arith, pow_pos k, one-mul (2 ^ k))))
is_set false k = ap (λ n. not (eqb n 0)) (zero-mul (2 ^ k))

pub legal-bit : (b k : ℕ) {m bit : ℕ} → m ≡ mask_of b → bit ≡ 2 ^ k → not (eqb (bit_and m bit) 0) ≡ member b (nth sets k)
unfolding mask_of
legal-bit b k e f = rw (e, f, alone, bit_at sets b k) (is_set (member b (nth sets k)) k)
