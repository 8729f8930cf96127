-- A text's bytes, read back: the reader's leaf finds them UTF-8 or refuses them.
-- Assumes nothing.
use mathlib.Core.Path.{◌≡◌, sym, ap, ◌∙◌}
use mathlib.Core.List.{List, ◌++◌}
use mathlib.Core.Bool.{true, false}
use Prim.Native.Nat.{ℕ, ◌+◌, ◌≤◌}
use native.Mathlib.Omega.{arith}
use lib.ListN.{length, take, drop}
use lib.Seq.{sets, sets-eq, length-sets, take_at}
use Rattle.std.proofs.Common.{Result, Ok, Err, inl, inr}
use Rattle.std.specs.Result.{is_ok}
use Rattle.format.specs.Utf8.{well_formed}
use Rattle.format.specs.Layout.{text, be, part, got, judge, placed, field}
use Rattle.format.specs.Meaning.{IsWidth, fault_m, field_m}
use Rattle.format.specs.declared.Fault.{Fault}
use Rattle.format.specs.declared.Fault.TheVariants.{Short, Refused}
use Rattle.format.proofs.Fields.{field-judged, text-cases}
use Rattle.pen.specs.Encode.{digits, put_in}
use Rattle.pen.proofs.Digits.{length_digits, put-fits}

-- the field that a text's bytes are, in a buffer of their length
text_of : (w v : ℕ) (l : List ℕ) → w ≤ length l
    → field (text w) (sets l 0 (digits w v)) 0 ≡ placed 0 (judge (text w) (digits w v))
text_of w v l h =
    let d : List ℕ = digits w v in
    let n : length d ≡ w = length_digits w v in
    let e : sets l 0 d ≡ d ++ drop (0 + length d) l = sets-eq d l 0 (omega arith) in
    let p : part (sets l 0 d) 0 w ≡ d = ap (take w) e ∙ take_at d (drop (0 + length d) l) w n in
    let k : 0 + w ≤ length (sets l 0 d) = rw length-sets (omega arith) in
    field-judged (text w) (sets l 0 d) 0 k ∙ rw p

-- whether it has a value or a fault tells whether the text is UTF-8
found-fine : (w : ℕ) (bs : List ℕ) (n : ℕ) → placed 0 (judge (text w) bs) ≡ got n → true ≡ well_formed bs
found-fine w bs n =
    text-cases (λ x. placed 0 x ≡ got n → true ≡ well_formed bs) w bs (λ t e. sym t) (λ t e. let z : ◌≡◌ {A = ℕ} 0 1 = cc in absurd (omega arith))

found-bad : (w : ℕ) (bs : List ℕ) (f : Fault) → placed 0 (judge (text w) bs) ≡ fault_m f → false ≡ well_formed bs
found-bad w bs f = text-cases (λ x. placed 0 x ≡ fault_m f → false ≡ well_formed bs) w bs (λ t e. absurd (no-fault f e)) (λ t e. sym t)
  where
    no-fault : (f : Fault) → got (be bs) ≡ fault_m f → ⊥
    no-fault Short e = let z : ◌≡◌ {A = ℕ} 0 1 = cc in omega arith
    no-fault (Refused r) e = let z : ◌≡◌ {A = ℕ} 0 1 = cc in omega arith

pub text-told : (w v : ℕ) (l : List ℕ) {A : Type 0} (m : A → ℕ) (r : Result A Fault) → w ≤ length l → field_m m r ≡ field (text w) (put_in l 0 (digits w v)) 0
    → is_ok r ≡ well_formed (digits w v)
text-told w v l m (Ok x) h e = found-fine w (digits w v) (m x) (sym (rw (put-fits l 0 w v (omega arith)) at e ∙ text_of w v l h))
text-told w v l m (Err f) h e = found-bad w (digits w v) f (sym (rw (put-fits l 0 w v (omega arith)) at e ∙ text_of w v l h))

-- no number has more than eight bytes
pub eight_at_most : {w : ℕ} → IsWidth w → w ≤ 8
eight_at_most (inl q) = omega arith
eight_at_most (inr (inl q)) = omega arith
eight_at_most (inr (inr (inl q))) = omega arith
eight_at_most (inr (inr (inr q))) = omega arith
