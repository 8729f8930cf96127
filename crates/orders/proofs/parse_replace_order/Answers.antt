-- `orders::parse_replace_order` meets its contract.
use mathlib.Core.Path.{refl}
use Rattle.format.specs.Ascii.{'U'}
use Rattle.format.proofs.Runs.{body-stops, body_reads, end, ◌⨾◌, start, ◌▹◌}
use Rattle.records.specs.Values.{values}
use Rattle.orders.proofs.parse_replace_order.Goals as goal

pub returns-in_err-old_reference : goal.returns-in_err-old_reference
returns-in_err-old_reference c = body-stops values 'U' _ _ _ refl start c.in_err-old_reference.ensures c.from_residual.ensures.1

pub returns-in_err-new_reference : goal.returns-in_err-new_reference
returns-in_err-new_reference c = body-stops values 'U' _ _ _ refl (start ▹ c.in_ok-old_reference.ensures) c.in_err-new_reference.ensures c.from_residual-in_err-new_reference.ensures.1

pub returns-in_err-shares : goal.returns-in_err-shares
returns-in_err-shares c = body-stops values 'U' _ _ _ refl (start ▹ c.in_ok-old_reference.ensures ▹ c.in_ok-new_reference.ensures) c.in_err-shares.ensures c.from_residual-in_err-shares.ensures.1

pub returns-in_err-price : goal.returns-in_err-price
returns-in_err-price c = body-stops values 'U' _ _ _ refl (start ▹ c.in_ok-old_reference.ensures ▹ c.in_ok-new_reference.ensures ▹ c.in_ok-shares.ensures) c.in_err-price.ensures c.from_residual-in_err-price.ensures.1

pub returns : goal.returns
returns c = body_reads 'U' _ refl (c.in_ok-old_reference.ensures ⨾ c.in_ok-new_reference.ensures ⨾ c.in_ok-shares.ensures ⨾ c.in_ok-price.ensures ⨾ end)
