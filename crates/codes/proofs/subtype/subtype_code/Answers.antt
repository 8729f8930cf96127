-- `codes::subtype::subtype_code` meets its contract: a name's row has a code, and it is the name's.
use mathlib.Core.Path.{◌≡◌, sym, ap, ◌∙◌}
use Rattle.std.specs.Prelude.{Some, slice_get}
use Rattle.format.specs.Codes.{subtypes}
use Rattle.codes.specs.Names.{subtype_byte}
use Rattle.codes.proofs.Rows.{row-code}
use Rattle.codes.proofs.subtype.subtype_code.Goals as goal
use Rattle.codes.proofs.subtype.subtype_code.Goals.{After-code_of}

coded : (c : After-code_of) → c.code_of.result ≡ Some (subtype_byte c.args.x)
coded c = c.code_of.ensures ∙ ap (slice_get subtypes) c.row.ensures ∙ row-code c.args.x

pub unwrap-requires : goal.unwrap-requires
unwrap-requires c = rw (coded c)

pub returns : goal.returns
returns c =
    let e = sym c.unwrap.ensures ∙ coded (goal.at.returns c).After-code_of in
    cc
