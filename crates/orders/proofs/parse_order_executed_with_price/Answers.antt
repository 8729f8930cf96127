-- `orders::parse_order_executed_with_price` meets its contract.
use mathlib.Core.Path.{refl}
use Rattle.format.specs.Ascii.{'C'}
use Rattle.format.proofs.Runs.{body-stops, body_reads, end, ◌⨾◌, start, ◌▹◌}
use Rattle.records.specs.Values.{values}
use Rattle.orders.proofs.parse_order_executed_with_price.Goals as goal

pub returns-in_err-reference : goal.returns-in_err-reference
returns-in_err-reference c = body-stops values 'C' _ _ _ refl start c.in_err-reference.ensures c.from_residual.ensures.1

pub returns-in_err-executed : goal.returns-in_err-executed
returns-in_err-executed c = body-stops values 'C' _ _ _ refl (start ▹ c.in_ok-reference.ensures) c.in_err-executed.ensures c.from_residual-in_err-executed.ensures.1

pub returns-in_err-match_number : goal.returns-in_err-match_number
returns-in_err-match_number c = body-stops values 'C' _ _ _ refl (start ▹ c.in_ok-reference.ensures ▹ c.in_ok-executed.ensures) c.in_err-match_number.ensures c.from_residual-in_err-match_number.ensures.1

pub returns-in_err-printable : goal.returns-in_err-printable
returns-in_err-printable c = body-stops values 'C' _ _ _ refl (start ▹ c.in_ok-reference.ensures ▹ c.in_ok-executed.ensures ▹ c.in_ok-match_number.ensures) c.in_err-printable.ensures c.from_residual-in_err-printable.ensures.1

pub returns-in_err-price : goal.returns-in_err-price
returns-in_err-price c = body-stops values 'C' _ _ _ refl (start ▹ c.in_ok-reference.ensures ▹ c.in_ok-executed.ensures ▹ c.in_ok-match_number.ensures ▹ c.in_ok-printable.ensures) c.in_err-price.ensures c.from_residual-in_err-price.ensures.1

pub returns : goal.returns
returns c = body_reads 'C' _ refl (c.in_ok-reference.ensures ⨾ c.in_ok-executed.ensures ⨾ c.in_ok-match_number.ensures ⨾ c.in_ok-printable.ensures ⨾ c.in_ok-price.ensures ⨾ end)
