-- `orders::parse_noncross_trade` meets its contract.
use mathlib.Core.Path.{refl}
use Rattle.format.specs.Ascii.{'P'}
use Rattle.format.proofs.Runs.{body-stops, body_reads, end, ◌⨾◌, start, ◌▹◌}
use Rattle.records.specs.Values.{values}
use Rattle.orders.proofs.parse_noncross_trade.Goals as goal

pub returns-in_err-reference : goal.returns-in_err-reference
returns-in_err-reference c = body-stops values 'P' _ _ _ refl start c.in_err-reference.ensures c.from_residual.ensures.1

pub returns-in_err-side : goal.returns-in_err-side
returns-in_err-side c = body-stops values 'P' _ _ _ refl (start ▹ c.in_ok-reference.ensures) c.in_err-side.ensures c.from_residual-in_err-side.ensures.1

pub returns-in_err-shares : goal.returns-in_err-shares
returns-in_err-shares c = body-stops values 'P' _ _ _ refl (start ▹ c.in_ok-reference.ensures ▹ c.in_ok-side.ensures) c.in_err-shares.ensures c.from_residual-in_err-shares.ensures.1

pub returns-in_err-stock : goal.returns-in_err-stock
returns-in_err-stock c = body-stops values 'P' _ _ _ refl (start ▹ c.in_ok-reference.ensures ▹ c.in_ok-side.ensures ▹ c.in_ok-shares.ensures) c.in_err-stock.ensures c.from_residual-in_err-stock.ensures.1

pub returns-in_err-price : goal.returns-in_err-price
returns-in_err-price c = body-stops values 'P' _ _ _ refl (start ▹ c.in_ok-reference.ensures ▹ c.in_ok-side.ensures ▹ c.in_ok-shares.ensures ▹ c.in_ok-stock.ensures) c.in_err-price.ensures c.from_residual-in_err-price.ensures.1

pub returns-in_err-match_number : goal.returns-in_err-match_number
returns-in_err-match_number c = body-stops values 'P' _ _ _ refl (start ▹ c.in_ok-reference.ensures ▹ c.in_ok-side.ensures ▹ c.in_ok-shares.ensures ▹ c.in_ok-stock.ensures ▹ c.in_ok-price.ensures) c.in_err-match_number.ensures c.from_residual-in_err-match_number.ensures.1

pub returns : goal.returns
returns c = body_reads 'P' _ refl (c.in_ok-reference.ensures ⨾ c.in_ok-side.ensures ⨾ c.in_ok-shares.ensures ⨾ c.in_ok-stock.ensures ⨾ c.in_ok-price.ensures ⨾ c.in_ok-match_number.ensures ⨾ end)
