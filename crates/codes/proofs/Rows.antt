-- The issue subtype by the table's rows: which name a row has, which row a name, and what is answered of two bytes by their row.
-- Assumes nothing.
use Prim.Native.Nat.{ℕ, zero, suc, ◌<◌}
use mathlib.Core.Path.{◌≡◌, refl, sym, ap, subst, ◌∙◌}
use mathlib.Core.Bool.{cond}
use mathlib.Core.List.{List, [], ◌∷◌, map}
use native.Mathlib.Nat.{add-zero, le_of_suc-le-suc, not-suc-le-zero}
use lib.Dec.{eqb, ltb}
use lib.ListN.{length, get_or}
use borrow.Author.Tests.{eqb-true, ltb-true}
use denote.Enum.Declared.{tag_of}
use Rattle.std.specs.Prelude.{Some, None, slice_get}
use Rattle.std.proofs.lemmas.Option.{slice_get-get_or}
use Rattle.format.specs.Codes.{subtypes}
use Rattle.format.specs.Layout.{got, refused, fine, wrong, placed}
use Rattle.subtypes.specs.Rows.{index_in, row_in}
use Rattle.subtypes.proofs.Ascending.{codes-count, row-is-code, row-is-none}
use Rattle.codes.specs.declared.subtype.IssueSubType.{IssueSubType}
use Rattle.codes.specs.Names.{subtype_byte, subtype_names, subtype_from, subtype_of}
use Rattle.codes.proofs.Back.{all_pass, subtype-back}
use Rattle.codes.specs.contracts.subtype.IssueSubType.{the_type}

-- two bytes that have a row, and a name of that row; two bytes that have none
pub hit : (v at : ℕ) {row : ℕ} (x : IssueSubType) → Some row ≡ row_in v subtypes → subtype_byte x ≡ get_or subtypes row 0 → got (subtype_byte x) ≡ subtype_of v at
unfolding subtype_of
hit v at x e q =
    let c = row-is-code v e in
    ap got (q ∙ c.2) ∙ sym (ap (λ u. placed at (cond u (fine v) (wrong 2 0))) c.1)

pub miss : (v at : ℕ) → None ≡ row_in v subtypes → refused 2 at ≡ subtype_of v at
unfolding subtype_of
miss v at e = sym (ap (λ u. placed at (cond u (fine v) (wrong 2 0))) (row-is-none v e) ∙ ap (refused 2) (add-zero at))

-- a list of names whose codes are the rows
at_row : {A : Type 0} (byte : A → ℕ) (xs : List A) (x : A) (row : ℕ) → row < length (map byte xs) → byte (get_or xs row x) ≡ get_or (map byte xs) row 0
at_row byte [] x row h = absurd (not-suc-le-zero h)
at_row byte (y ∷ xs) x zero h = refl
at_row byte (y ∷ xs) x (suc row) h = at_row byte xs x row (le_of_suc-le-suc h)

pub name-row : (xs : List IssueSubType) (x : IssueSubType) {row : ℕ} → map subtype_byte xs ≡ subtypes → row < 58 → subtype_byte (get_or xs row x) ≡ get_or subtypes row 0
name-row xs x {row} e h = at_row subtype_byte xs x row (rw (e, codes-count) h) ∙ ap (λ ks. get_or ks row 0) e

-- the row of a name: it has the name's code, and is the name's place in the enum. Both are tests over all names
row-byte : (x : IssueSubType) → get_or subtypes (index_in (subtype_byte x) subtypes) 0 ≡ subtype_byte x
unfolding subtype_byte subtype_from subtypes
row-byte x = eqb-true _ _ (all_pass (λ b. eqb (get_or subtypes (index_in b subtypes) 0) b) subtype_byte subtype_names _ subtype-back tt x)

row-inside : (x : IssueSubType) → index_in (subtype_byte x) subtypes < length subtypes
unfolding subtype_byte subtype_from subtypes
row-inside x = ltb-true _ _ (all_pass (λ b. ltb (index_in b subtypes) (length subtypes)) subtype_byte subtype_names _ subtype-back tt x)

pub row-code : (x : IssueSubType) → slice_get subtypes (index_in (subtype_byte x) subtypes) ≡ Some (subtype_byte x)
row-code x = slice_get-get_or subtypes _ 0 (row-inside x) ∙ ap Some (row-byte x)

pub row-declared : (x : IssueSubType) → tag_of the_type x ≡ index_in (subtype_byte x) subtypes
unfolding subtype_byte subtype_from subtypes
row-declared x =
    subst (λ y. tag_of the_type y ≡ index_in (subtype_byte x) subtypes) (subtype-back x)
    (eqb-true _ _ (all_pass (λ b. eqb (tag_of the_type (subtype_from b)) (index_in b subtypes)) subtype_byte subtype_names _ subtype-back tt x))
