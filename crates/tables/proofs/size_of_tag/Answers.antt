-- `tables::size_of_tag` meets its contract. The whole table, which has the tags of both editions, is computed and compared once; in the old edition it
-- is asked only for tags that the later one does not add.
use mathlib.Core.Path.{◌≡◌, sym, ap, ◌∙◌}
use mathlib.Core.List.{[], ◌∷◌}
use mathlib.Core.Logic.{inl, inr}
use Prim.Native.Nat.{ℕ}
use types.Run.{OneOf}
use borrow.Author.Tests.{ne_eqb}
use Rattle.format.specs.Ascii.{'O', 'h'}
use Rattle.format.specs.Rows.{base, added, rows, find, size_in, size_of, size_by}
use Rattle.format.proofs.Editions.{not_behind}
use Rattle.tables.proofs.Table.{tabled}
use Rattle.tables.proofs.size_of_tag.Goals as goal

-- the old edition has no tag that the later one adds, and every other tag as it is
added-tag : (t : ℕ) → OneOf ('O' ∷ 'h' ∷ []) t → 0 ≡ size_in (find base t)
added-tag t (inl e) = rw e
added-tag t (inr e) = rw e

other_tag : (t : ℕ) → (OneOf ('O' ∷ 'h' ∷ []) t → ⊥) → find rows t ≡ find base t
other_tag t h = not_behind base added t (rw (ne_eqb 'h' t (λ e. h (inr (sym e))), ne_eqb 'O' t (λ e. h (inl (sym e)))))

pub returns-in-Later : goal.returns-in-Later
unfolding size_of size_by
returns-in-Later c = rw c.in-Later.is (tabled size_of 256 c.args.tag c.ranges.tag.fits)

pub returns-in-79 : goal.returns-in-79
unfolding size_by
returns-in-79 c = rw c.in-Old.is (added-tag c.args.tag c.in-79.is)

pub returns-in_default : goal.returns-in_default
unfolding size_of size_by
returns-in_default c =
    let t = c.args.tag in
    rw c.in-Old.is (tabled size_of 256 t c.ranges.tag.fits ∙ ap size_in (other_tag t c.in_default.in_default-own.rest.1))
