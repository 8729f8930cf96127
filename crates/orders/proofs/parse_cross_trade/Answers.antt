-- `orders::parse_cross_trade` meets its contract.
use mathlib.Core.Path.{refl}
use Rattle.format.specs.Ascii.{'Q'}
use Rattle.format.proofs.Runs.{body-stops, body_reads, end, ◌⨾◌, start, ◌▹◌}
use Rattle.records.specs.Values.{values}
use Rattle.orders.proofs.parse_cross_trade.Goals as goal

pub returns-in_err-shares : goal.returns-in_err-shares
returns-in_err-shares c = body-stops values 'Q' _ _ _ refl start c.in_err-shares.ensures c.from_residual.ensures.1

pub returns-in_err-stock : goal.returns-in_err-stock
returns-in_err-stock c = body-stops values 'Q' _ _ _ refl (start ▹ c.in_ok-shares.ensures) c.in_err-stock.ensures c.from_residual-in_err-stock.ensures.1

pub returns-in_err-cross_price : goal.returns-in_err-cross_price
returns-in_err-cross_price c = body-stops values 'Q' _ _ _ refl (start ▹ c.in_ok-shares.ensures ▹ c.in_ok-stock.ensures) c.in_err-cross_price.ensures c.from_residual-in_err-cross_price.ensures.1

pub returns-in_err-match_number : goal.returns-in_err-match_number
returns-in_err-match_number c = body-stops values 'Q' _ _ _ refl (start ▹ c.in_ok-shares.ensures ▹ c.in_ok-stock.ensures ▹ c.in_ok-cross_price.ensures) c.in_err-match_number.ensures c.from_residual-in_err-match_number.ensures.1

pub returns-in_err-cross_type : goal.returns-in_err-cross_type
returns-in_err-cross_type c = body-stops values 'Q' _ _ _ refl (start ▹ c.in_ok-shares.ensures ▹ c.in_ok-stock.ensures ▹ c.in_ok-cross_price.ensures ▹ c.in_ok-match_number.ensures) c.in_err-cross_type.ensures c.from_residual-in_err-cross_type.ensures.1

pub returns : goal.returns
returns c = body_reads 'Q' _ refl (c.in_ok-shares.ensures ⨾ c.in_ok-stock.ensures ⨾ c.in_ok-cross_price.ensures ⨾ c.in_ok-match_number.ensures ⨾ c.in_ok-cross_type.ensures ⨾ end)
