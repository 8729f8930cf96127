-- `notices::parse_retail_price_improvement_indicator` meets its contract.
use mathlib.Core.Path.{refl}
use Rattle.format.specs.Ascii.{'N'}
use Rattle.format.proofs.Runs.{body-stops, body_reads, end, ◌⨾◌, start, ◌▹◌}
use Rattle.records.specs.Values.{values}
use Rattle.notices.proofs.parse_retail_price_improvement_indicator.Goals as goal

pub returns-in_err-stock : goal.returns-in_err-stock
returns-in_err-stock c = body-stops values 'N' _ _ _ refl start c.in_err-stock.ensures c.from_residual.ensures.1

pub returns-in_err-interest_flag : goal.returns-in_err-interest_flag
returns-in_err-interest_flag c = body-stops values 'N' _ _ _ refl (start ▹ c.in_ok-stock.ensures) c.in_err-interest_flag.ensures c.from_residual-in_err-interest_flag.ensures.1

pub returns : goal.returns
returns c = body_reads 'N' _ refl (c.in_ok-stock.ensures ⨾ c.in_ok-interest_flag.ensures ⨾ end)
