-- `plain::rows` meets its contract. The whole table is computed and compared once.
use lib.ListN.{get_or-replicate}
use Rattle.format.specs.Codes.{side}
use Rattle.tables.proofs.Table.{tabled}
use Rattle.plain.specs.Plain.{row_of}
use Rattle.plain.proofs.rows.Goals as goal

pub returns-then-strict : goal.returns-then-strict
returns-then-strict c = rw c.if-strict.true (λ b h. get_or-replicate 256 b 0 0 h)

pub returns : goal.returns
unfolding row_of side
returns c = rw c.if-strict.false (tabled row_of 256)
