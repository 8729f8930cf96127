-- `notices::parse_luld_auction_collar` meets its contract.
use mathlib.Core.Path.{refl}
use Rattle.format.specs.Ascii.{'J'}
use Rattle.format.proofs.Runs.{body-stops, body_reads, end, ◌⨾◌, start, ◌▹◌}
use Rattle.records.specs.Values.{values}
use Rattle.notices.proofs.parse_luld_auction_collar.Goals as goal

pub returns-in_err-stock : goal.returns-in_err-stock
returns-in_err-stock c = body-stops values 'J' _ _ _ refl start c.in_err-stock.ensures c.from_residual.ensures.1

pub returns-in_err-ref_price : goal.returns-in_err-ref_price
returns-in_err-ref_price c = body-stops values 'J' _ _ _ refl (start ▹ c.in_ok-stock.ensures) c.in_err-ref_price.ensures c.from_residual-in_err-ref_price.ensures.1

pub returns-in_err-upper_price : goal.returns-in_err-upper_price
returns-in_err-upper_price c = body-stops values 'J' _ _ _ refl (start ▹ c.in_ok-stock.ensures ▹ c.in_ok-ref_price.ensures) c.in_err-upper_price.ensures c.from_residual-in_err-upper_price.ensures.1

pub returns-in_err-lower_price : goal.returns-in_err-lower_price
returns-in_err-lower_price c = body-stops values 'J' _ _ _ refl (start ▹ c.in_ok-stock.ensures ▹ c.in_ok-ref_price.ensures ▹ c.in_ok-upper_price.ensures) c.in_err-lower_price.ensures c.from_residual-in_err-lower_price.ensures.1

pub returns-in_err-extension : goal.returns-in_err-extension
returns-in_err-extension c = body-stops values 'J' _ _ _ refl (start ▹ c.in_ok-stock.ensures ▹ c.in_ok-ref_price.ensures ▹ c.in_ok-upper_price.ensures ▹ c.in_ok-lower_price.ensures) c.in_err-extension.ensures c.from_residual-in_err-extension.ensures.1

pub returns : goal.returns
returns c = body_reads 'J' _ refl (c.in_ok-stock.ensures ⨾ c.in_ok-ref_price.ensures ⨾ c.in_ok-upper_price.ensures ⨾ c.in_ok-lower_price.ensures ⨾ c.in_ok-extension.ensures ⨾ end)
