-- `codes::subtype::row` meets its contract: a name's place in the enum is its row (`row-declared`).
use Rattle.codes.proofs.Rows.{row-declared}
use Rattle.codes.proofs.subtype.row.Goals as goal

pub returns : goal.returns
returns c = row-declared c.args.x
