-- A code that was read has a name that stands for it: so a field's value is said by its name. One law, computed over each set.
-- Assumes nothing.
use mathlib.Core.Path.{◌≡◌, refl, sym, ap, ◌∙◌}
use mathlib.Core.Bool.{Bool, true, false, cond, ◌&&◌, ◌||◌, false≢true}
use mathlib.Core.List.{List, [], ◌∷◌}
use Prim.Native.Nat.{ℕ}
use native.Mathlib.Nat.{zero-add, add-zero}
use lib.Dec.{eqb}
use borrow.Author.Tests.{eqb-true}
use Rattle.format.specs.Layout.{num, code, subtype, be, part, member, got, refused, fine, wrong, judge, placed, field, judge_by}
use Rattle.codes.specs.Coded.{backs}
use Rattle.codes.specs.Names.{subtype_of}
use Rattle.format.proofs.Fields.{field-judged, field-fine, one_byte}

split : (a b : Bool) → (a && b) ≡ true → (a ≡ true) × (b ≡ true)
split true b e = (refl, e)
split false b e = absurd (false≢true e)

-- so each code of the set is the byte of its name
pub backed : {A : Type 0} (byte : A → ℕ) (from : ℕ → A) (set : List ℕ) → backs byte from set ≡ true → (b : ℕ) → member b set ≡ true → byte (from b) ≡ b
unfolding backs
backed byte from [] t b m = absurd (false≢true m)
backed byte from (k ∷ ks) t b m = go (eqb b k) refl m (backed byte from ks h.1 b)
  where
    h : (eqb (byte (from k)) k ≡ true) × (backs byte from ks ≡ true)
    h = split (eqb (byte (from k)) k) (backs byte from ks) t

    go : (q : Bool) → eqb b k ≡ q → (q || member b ks) ≡ true → (member b ks ≡ true → byte (from b) ≡ b) → byte (from b) ≡ b
    go true e m' rest = rw (eqb-true b k e) (eqb-true (byte (from k)) k h.0)
    go false e m' rest = rest m'

-- the field of a code: its byte is there and a code, whose name is r; its byte is there and no code; its byte is not there
judged-code : (set : List ℕ) (b : ℕ) → judge (code set) (b ∷ []) ≡ cond (member b set) (fine b) (wrong 2 0)
unfolding judge_by
judged-code set b = rw zero-add

one : (set s : List ℕ) (at : ℕ) {b : ℕ} {t : Bool} → got b ≡ field (num 1) s at → t ≡ member b set → field (code set) s at ≡ placed at (cond t (fine b) (wrong 2 0))
one set s at {b} e l = one_byte (code set) s at refl (sym e) ∙ rw l (ap (placed at) (judged-code set b))

pub code-named : {A : Type 0} (byte : A → ℕ) (name : ℕ → A) (set s : List ℕ) (at : ℕ) {b : ℕ} {t : Bool} {r : A}
    → backs byte name set ≡ true
    → got b ≡ field (num 1) s at → t ≡ member b set → t ≡ true → r ≡ name b → got (byte r) ≡ field (code set) s at
code-named byte name set s at {b} n e l q z = ap got (ap byte z ∙ backed byte name set n b (sym l ∙ q)) ∙ sym (one set s at e l ∙ rw q)

pub code-none : (set s : List ℕ) (at : ℕ) {b : ℕ} {t : Bool} → got b ≡ field (num 1) s at → t ≡ member b set → t ≡ false → refused 2 at ≡ field (code set) s at
code-none set s at e l q = sym (one set s at e l ∙ rw (q, add-zero at))

-- the subtype: a number of two bytes, judged
pub subtype-got : (s : List ℕ) (at : ℕ) {v : ℕ} → got v ≡ field (num 2) s at → field subtype s at ≡ subtype_of v at
unfolding judge_by subtype_of
subtype-got s at {v} e =
    let h = field-fine (num 2) s at (sym e) in
    let q : be (part s at 2) ≡ v = cc h.1 in
    field-judged subtype s at h.0 ∙ rw q
