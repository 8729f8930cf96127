-- `codes::subtype::subtype_at` meets its contract.
use Rattle.std.proofs.Common.{refl, sym, ◌∙◌}
use Rattle.std.proofs.lemmas.Result.{err_from_is_err_and}
use Rattle.format.specs.Layout.{subtype}
use Rattle.format.proofs.Fields.{num-short}
use Rattle.codes.proofs.Codes.{subtype-got}
use Rattle.codes.proofs.subtype.subtype_at.Goals as goal

pub returns-in_err-v : goal.returns-in_err-v
returns-in_err-v c =
    let p = err_from_is_err_and c.from_residual.result c.from_residual.ensures.1 in
    rw (p.1, p.2) (sym (num-short subtype 2 _ _ _ refl (sym c.in_err-v.ensures)))

pub returns : goal.returns
returns c = c.subtype_of.ensures ∙ sym (subtype-got _ _ c.in_ok-v.ensures)
