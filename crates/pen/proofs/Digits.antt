-- The bytes of a number: how many, in two parts, and where they are put.
-- Assumes nothing.
use mathlib.Core.Path.{◌≡◌, refl, sym, ap, ◌∙◌}
use mathlib.Core.List.{List, [], ◌∷◌, ◌++◌, append_assoc, append-nil}
use Prim.Native.Nat.{ℕ, zero, suc, ◌+◌, ◌*◌, ◌^◌, ◌/◌, ◌%◌, ◌<◌, ◌≤◌}
use native.Mathlib.Nat.{add-zero, add-suc, suc-add, pow-suc, div-one, div-div-eq-div-mul, mul_comm}
use native.Mathlib.Numerals.{add-one}
use lib.ListN.{length, set, length-append}
use lib.Seq.{sets}
use borrow.Author.Tests.{le-leb, lt-leb}
use Rattle.pen.specs.Encode.{digits, put_in}

pub length_digits : (w v : ℕ) → length (digits w v) ≡ w
unfolding digits
length_digits zero v = refl
length_digits (suc w) v = length-append (digits w (v / 256)) (v % 256 ∷ []) ∙ ap (λ n. n + 1) (length_digits w (v / 256)) ∙ add-one w

-- bytes put one run after the other
pub sets-append : (l : List ℕ) (i : ℕ) (a b : List ℕ) → sets l i (a ++ b) ≡ sets (sets l i a) (i + length a) b
sets-append l i [] b = rw add-zero
sets-append l i (x ∷ xs) b =
    sets-append (set l i x) (suc i) xs b
    ∙ ap (λ n. sets (sets (set l i x) (suc i) xs) n b) (suc-add i (length xs) ∙ sym (add-suc i (length xs)))

-- bytes that fit are put, others not
pub put-fits : (s : List ℕ) (at w v : ℕ) → at + w ≤ length s → put_in s at (digits w v) ≡ sets s at (digits w v)
unfolding put_in
put-fits s at w v h = rw (length_digits, le-leb _ _ h)

pub put-not : (s : List ℕ) (at w v : ℕ) → length s < at + w → put_in s at (digits w v) ≡ s
unfolding put_in
put-not s at w v h = rw (length_digits, lt-leb _ _ h)

-- a number of a + b bytes is its first a bytes and its last b
two-parts : (a b v : ℕ) → digits a (v / 256 ^ b) ++ digits b v ≡ digits (a + b) v
unfolding digits
two-parts a zero v = append-nil (digits a (v / 1)) ∙ ap (digits a) (div-one v) ∙ ap (λ n. digits n v) (sym (add-zero a))
two-parts a (suc b) v =
    let y : v / (256 ^ b * 256) ≡ v / 256 / 256 ^ b = ap (λ n. v / n) (mul_comm (256 ^ b) 256) ∙ sym (div-div-eq-div-mul v 256 (256 ^ b)) in
    rw (pow-suc, y, add-suc)
    (sym (append_assoc (digits a (v / 256 / 256 ^ b)) (digits b (v / 256)) (v % 256 ∷ []))
    ∙ ap (λ l. l ++ (v % 256 ∷ [])) (two-parts a b (v / 256)))

-- the first a bytes of a number stored, then its last b behind them: the number stored
pub joins : (l : List ℕ) (at a b v : ℕ) {m u : List ℕ} → m ≡ sets l at (digits a (v / 256 ^ b)) → u ≡ sets m (at + a) (digits b v)
    → u ≡ sets l at (digits (a + b) v)
joins l at a b v e f =
    let x : List ℕ = digits a (v / 256 ^ b) in
    let y : List ℕ = digits b v in
    f ∙ ap (λ r. sets r (at + a) y) e ∙ ap (λ n. sets (sets l at x) (at + n) y) (sym (length_digits a (v / 256 ^ b)))
    ∙ sym (sets-append l at x y) ∙ ap (sets l at) (two-parts a b v)

-- a number of one byte is that byte
pub digits_one : (l : List ℕ) (at w v : ℕ) → w ≡ 1 → set l at (v % 256) ≡ sets l at (digits w v)
unfolding digits
digits_one l at w v e = rw e
