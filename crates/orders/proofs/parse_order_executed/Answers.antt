-- `orders::parse_order_executed` meets its contract.
use mathlib.Core.Path.{refl}
use Rattle.format.specs.Ascii.{'E'}
use Rattle.format.proofs.Runs.{body-stops, body_reads, end, ◌⨾◌, start, ◌▹◌}
use Rattle.records.specs.Values.{values}
use Rattle.orders.proofs.parse_order_executed.Goals as goal

pub returns-in_err-reference : goal.returns-in_err-reference
returns-in_err-reference c = body-stops values 'E' _ _ _ refl start c.in_err-reference.ensures c.from_residual.ensures.1

pub returns-in_err-executed : goal.returns-in_err-executed
returns-in_err-executed c = body-stops values 'E' _ _ _ refl (start ▹ c.in_ok-reference.ensures) c.in_err-executed.ensures c.from_residual-in_err-executed.ensures.1

pub returns-in_err-match_number : goal.returns-in_err-match_number
returns-in_err-match_number c = body-stops values 'E' _ _ _ refl (start ▹ c.in_ok-reference.ensures ▹ c.in_ok-executed.ensures) c.in_err-match_number.ensures c.from_residual-in_err-match_number.ensures.1

pub returns : goal.returns
returns c = body_reads 'E' _ refl (c.in_ok-reference.ensures ⨾ c.in_ok-executed.ensures ⨾ c.in_ok-match_number.ensures ⨾ end)
