-- `orders::parse_delete_order` meets its contract.
use mathlib.Core.Path.{refl}
use Rattle.format.specs.Ascii.{'D'}
use Rattle.format.proofs.Runs.{body-stops, body_reads, end, ◌⨾◌, start}
use Rattle.records.specs.Values.{values}
use Rattle.orders.proofs.parse_delete_order.Goals as goal

pub returns-in_err-reference : goal.returns-in_err-reference
returns-in_err-reference c = body-stops values 'D' _ _ _ refl start c.in_err-reference.ensures c.from_residual.ensures.1

pub returns : goal.returns
returns c = body_reads 'D' _ refl (c.in_ok-reference.ensures ⨾ end)
