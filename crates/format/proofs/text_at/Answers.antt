-- `format::text_at` meets its contract.
use Rattle.std.proofs.Common.{refl, sym, ◌∙◌}
use Rattle.std.proofs.lemmas.Result.{err_from_is_err_and}
use Rattle.format.specs.Layout.{text}
use Rattle.format.proofs.Fields.{num-short, num-fine, field-text, field-no-text}
use Rattle.format.proofs.Text.{ascii-text, even-text}
use Rattle.format.proofs.text_at.Goals as goal

pub returns-in_err-v : goal.returns-in_err-v
returns-in_err-v g c =
    let p = err_from_is_err_and c.from_residual.result c.from_residual.ensures.1 in
    rw (p.1, p.2) (sym (num-short (text g.T.Number.WIDTH) g.T.Number.WIDTH _ _ _ refl (sym c.in_err-v.ensures)))

pub returns-then-wide-eq0 : goal.returns-then-wide-eq0
returns-then-wide-eq0 g c =
    let n = num-fine g.T.Number.WIDTH _ _ c.in_ok-v.ensures in
    field-text g.T.Number.WIDTH _ _ n.0 n.1
    (ascii-text g.T.Number.WIDTH _ _ g.met.T.Letters.texts (λ i. (c.type_inv.s i).fits) n.0 n.1 (rw c.wide.ensures.0 at c.if-wide-eq0.true))

pub well_formed-requires : goal.well_formed-requires
well_formed-requires g c = rw c.WIDTH.ensures ((num-fine g.T.Number.WIDTH _ _ c.in_ok-v.ensures).0, g.met.T.Letters.texts)

pub first_bad-requires : goal.first_bad-requires
first_bad-requires g c = rw c.WIDTH-else-well_formed.ensures ((num-fine g.T.Number.WIDTH _ _ c.in_ok-v.ensures).0, even-text g.met.T.Letters.texts)

pub returns-then-well_formed : goal.returns-then-well_formed
returns-then-well_formed g c =
    let n = num-fine g.T.Number.WIDTH _ _ c.in_ok-v.ensures in
    field-text g.T.Number.WIDTH _ _ n.0 n.1 (rw c.WIDTH.ensures at (sym c.well_formed-2.ensures ∙ c.if-well_formed.true))

pub returns-else-well_formed : goal.returns-else-well_formed
returns-else-well_formed g c =
    let n = num-fine g.T.Number.WIDTH _ _ c.in_ok-v.ensures in
    rw c.refused.ensures
    (field-no-text g.T.Number.WIDTH _ _ n.0 (rw c.WIDTH.ensures at (sym c.well_formed-2.ensures ∙ c.if-well_formed.false))
    (rw c.WIDTH-else-well_formed.ensures at c.first_bad.ensures))
