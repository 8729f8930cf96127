-- `codes::subtype::subtype_of` meets its contract.
use mathlib.Core.Path.{sym, ◌∙◌}
use Rattle.subtypes.proofs.Ascending.{row-is-code}
use Rattle.codes.proofs.Rows.{hit, miss, name-row}
use Rattle.codes.proofs.subtype.subtype_of.Goals as goal

pub returns-in_default : goal.returns-in_default
returns-in_default c = rw c.refused.ensures (miss c.args.v _ (sym c.in_default.is ∙ c.row_of.ensures))

pub returns : goal.returns
returns c =
    let e = c.in-Some.ensures in
    hit c.args.v _ _ e (name-row c.names-names.result _ c.names-names.ensures (row-is-code _ e).0)
