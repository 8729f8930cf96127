-- `orders::parse_order_cancelled` meets its contract.
use mathlib.Core.Path.{refl}
use Rattle.format.specs.Ascii.{'X'}
use Rattle.format.proofs.Runs.{body-stops, body_reads, end, ◌⨾◌, start, ◌▹◌}
use Rattle.records.specs.Values.{values}
use Rattle.orders.proofs.parse_order_cancelled.Goals as goal

pub returns-in_err-reference : goal.returns-in_err-reference
returns-in_err-reference c = body-stops values 'X' _ _ _ refl start c.in_err-reference.ensures c.from_residual.ensures.1

pub returns-in_err-cancelled : goal.returns-in_err-cancelled
returns-in_err-cancelled c = body-stops values 'X' _ _ _ refl (start ▹ c.in_ok-reference.ensures) c.in_err-cancelled.ensures c.from_residual-in_err-cancelled.ensures.1

pub returns : goal.returns
returns c = body_reads 'X' _ refl (c.in_ok-reference.ensures ⨾ c.in_ok-cancelled.ensures ⨾ end)
