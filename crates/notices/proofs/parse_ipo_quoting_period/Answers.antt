-- `notices::parse_ipo_quoting_period` meets its contract.
use mathlib.Core.Path.{refl}
use Rattle.format.specs.Ascii.{'K'}
use Rattle.format.proofs.Runs.{body-stops, body_reads, end, ◌⨾◌, start, ◌▹◌}
use Rattle.records.specs.Values.{values}
use Rattle.notices.proofs.parse_ipo_quoting_period.Goals as goal

pub returns-in_err-stock : goal.returns-in_err-stock
returns-in_err-stock c = body-stops values 'K' _ _ _ refl start c.in_err-stock.ensures c.from_residual.ensures.1

pub returns-in_err-release_time : goal.returns-in_err-release_time
returns-in_err-release_time c = body-stops values 'K' _ _ _ refl (start ▹ c.in_ok-stock.ensures) c.in_err-release_time.ensures c.from_residual-in_err-release_time.ensures.1

pub returns-in_err-release_qualifier : goal.returns-in_err-release_qualifier
returns-in_err-release_qualifier c = body-stops values 'K' _ _ _ refl (start ▹ c.in_ok-stock.ensures ▹ c.in_ok-release_time.ensures) c.in_err-release_qualifier.ensures c.from_residual-in_err-release_qualifier.ensures.1

pub returns-in_err-price : goal.returns-in_err-price
returns-in_err-price c = body-stops values 'K' _ _ _ refl (start ▹ c.in_ok-stock.ensures ▹ c.in_ok-release_time.ensures ▹ c.in_ok-release_qualifier.ensures) c.in_err-price.ensures c.from_residual-in_err-price.ensures.1

pub returns : goal.returns
returns c = body_reads 'K' _ refl (c.in_ok-stock.ensures ⨾ c.in_ok-release_time.ensures ⨾ c.in_ok-release_qualifier.ensures ⨾ c.in_ok-price.ensures ⨾ end)
