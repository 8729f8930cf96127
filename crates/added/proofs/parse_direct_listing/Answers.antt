-- `added::parse_direct_listing` meets its contract.
use mathlib.Core.Path.{refl}
use Rattle.format.specs.Ascii.{'O'}
use Rattle.format.proofs.Runs.{body-stops, body_reads, end, ◌⨾◌, start, ◌▹◌}
use Rattle.records.specs.Values.{values}
use Rattle.added.proofs.parse_direct_listing.Goals as goal

pub returns-in_err-stock : goal.returns-in_err-stock
returns-in_err-stock c = body-stops values 'O' _ _ _ refl start c.in_err-stock.ensures c.from_residual.ensures.1

pub returns-in_err-open_eligibility : goal.returns-in_err-open_eligibility
returns-in_err-open_eligibility c = body-stops values 'O' _ _ _ refl (start ▹ c.in_ok-stock.ensures) c.in_err-open_eligibility.ensures c.from_residual-in_err-open_eligibility.ensures.1

pub returns-in_err-minimum_price : goal.returns-in_err-minimum_price
returns-in_err-minimum_price c = body-stops values 'O' _ _ _ refl (start ▹ c.in_ok-stock.ensures ▹ c.in_ok-open_eligibility.ensures) c.in_err-minimum_price.ensures c.from_residual-in_err-minimum_price.ensures.1

pub returns-in_err-maximum_price : goal.returns-in_err-maximum_price
returns-in_err-maximum_price c = body-stops values 'O' _ _ _ refl (start ▹ c.in_ok-stock.ensures ▹ c.in_ok-open_eligibility.ensures ▹ c.in_ok-minimum_price.ensures) c.in_err-maximum_price.ensures c.from_residual-in_err-maximum_price.ensures.1

pub returns-in_err-near_execution_price : goal.returns-in_err-near_execution_price
returns-in_err-near_execution_price c = body-stops values 'O' _ _ _ refl (start ▹ c.in_ok-stock.ensures ▹ c.in_ok-open_eligibility.ensures ▹ c.in_ok-minimum_price.ensures ▹ c.in_ok-maximum_price.ensures) c.in_err-near_execution_price.ensures c.from_residual-in_err-near_execution_price.ensures.1

pub returns-in_err-near_execution_time : goal.returns-in_err-near_execution_time
returns-in_err-near_execution_time c = body-stops values 'O' _ _ _ refl (start ▹ c.in_ok-stock.ensures ▹ c.in_ok-open_eligibility.ensures ▹ c.in_ok-minimum_price.ensures ▹ c.in_ok-maximum_price.ensures ▹ c.in_ok-near_execution_price.ensures) c.in_err-near_execution_time.ensures c.from_residual-in_err-near_execution_time.ensures.1

pub returns-in_err-lower_collar : goal.returns-in_err-lower_collar
returns-in_err-lower_collar c = body-stops values 'O' _ _ _ refl (start ▹ c.in_ok-stock.ensures ▹ c.in_ok-open_eligibility.ensures ▹ c.in_ok-minimum_price.ensures ▹ c.in_ok-maximum_price.ensures ▹ c.in_ok-near_execution_price.ensures ▹ c.in_ok-near_execution_time.ensures) c.in_err-lower_collar.ensures c.from_residual-in_err-lower_collar.ensures.1

pub returns-in_err-upper_collar : goal.returns-in_err-upper_collar
returns-in_err-upper_collar c = body-stops values 'O' _ _ _ refl (start ▹ c.in_ok-stock.ensures ▹ c.in_ok-open_eligibility.ensures ▹ c.in_ok-minimum_price.ensures ▹ c.in_ok-maximum_price.ensures ▹ c.in_ok-near_execution_price.ensures ▹ c.in_ok-near_execution_time.ensures ▹ c.in_ok-lower_collar.ensures) c.in_err-upper_collar.ensures c.from_residual-in_err-upper_collar.ensures.1

pub returns : goal.returns
returns c = body_reads 'O' _ refl (c.in_ok-stock.ensures ⨾ c.in_ok-open_eligibility.ensures ⨾ c.in_ok-minimum_price.ensures ⨾ c.in_ok-maximum_price.ensures ⨾ c.in_ok-near_execution_price.ensures ⨾ c.in_ok-near_execution_time.ensures ⨾ c.in_ok-lower_collar.ensures ⨾ c.in_ok-upper_collar.ensures ⨾ end)
