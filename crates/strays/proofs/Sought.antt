-- The search for the first byte outside 20 to 7e in one text.
-- Assumes nothing.
use mathlib.Core.Path.{◌≡◌, refl, ap}
use mathlib.Core.List.{List}
use mathlib.Core.Bool.{Bool, true, false, cond, ◌&&◌}
use Prim.Native.Nat.{ℕ, suc, ◌+◌, ◌-◌, ◌<◌, ◌≤◌}
use native.Mathlib.Numerals.{add-one}
use native.Mathlib.Nat.{add-zero}
use native.Mathlib.Omega.{arith}
use lib.Dec.{leb}
use lib.ListN.{length, get_or}
use lib.Seq.{drop-cons}
use borrow.Author.Tests.{le-leb, lt-leb}
use Rattle.format.specs.Layout.{outside, strays, first_stray, part}

-- what the bytes from a place on answer, with no limit
abbrev pub sought : List ℕ → ℕ → ℕ
sought bs at = cond (strays bs) (at + first_stray bs) 0

-- over a text of w bytes, from the place i on: at first; at such a byte; one byte on; and behind the last
pub sought-start : (s : List ℕ) (at w : ℕ) → sought (part s at (at + w - at)) at ≡ sought (part s at w) at
sought-start s at w =
    let n : at + w - at ≡ w = omega arith in
    rw n

pub sought-here : (s : List ℕ) (i end : ℕ) → i < end → end ≤ length s → outside (get_or s i 0) ≡ true → i ≡ sought (part s i (end - i)) i
unfolding strays first_stray
sought-here s i end l h e =
    let n : end - i ≡ suc (end - (i + 1)) = omega arith in
    let k : i < length s = omega arith in
    rw (n, drop-cons s i 0 k, e, add-zero i)

pub sought-more : (s : List ℕ) (i end : ℕ) → i < end → end ≤ length s → outside (get_or s i 0) ≡ false
    → sought (part s (i + 1) (end - (i + 1))) (i + 1) ≡ sought (part s i (end - i)) i
unfolding strays first_stray
sought-more s i end l h e =
    let n : end - i ≡ suc (end - (i + 1)) = omega arith in
    let k : i < length s = omega arith in
    rw (n, drop-cons s i 0 k, e, ← add-one i) (ap (λ p. cond (strays (part s (i + 1) (end - (i + 1)))) p 0) (omega arith))

pub sought-end : (s : List ℕ) (i end : ℕ) → end ≤ i → 0 ≡ sought (part s i (end - i)) i
unfolding strays
sought-end s i end h =
    let n : end - i ≡ 0 = omega arith in
    rw n

-- a text that ends no later than the limit counts, and one that ends behind it does not
pub counted : (b : Bool) (p end limit : ℕ) → end ≤ limit → cond b p 0 ≡ cond (b && leb end limit) p 0
counted true p end limit h = rw (le-leb end limit h)
counted false p end limit h = refl

pub uncounted : (b : Bool) (p end limit : ℕ) → limit < end → 0 ≡ cond (b && leb end limit) p 0
uncounted true p end limit h = rw (lt-leb end limit h)
uncounted false p end limit h = refl
