-- `notices::parse_trading_action` meets its contract.
use mathlib.Core.Path.{refl}
use Rattle.format.specs.Ascii.{'H'}
use Rattle.format.proofs.Runs.{body-stops, body_reads, end, ◌⨾◌, start, ◌▹◌}
use Rattle.records.specs.Values.{values}
use Rattle.notices.proofs.parse_trading_action.Goals as goal

pub returns-in_err-stock : goal.returns-in_err-stock
returns-in_err-stock c = body-stops values 'H' _ _ _ refl start c.in_err-stock.ensures c.from_residual.ensures.1

pub returns-in_err-trading_state : goal.returns-in_err-trading_state
returns-in_err-trading_state c = body-stops values 'H' _ _ _ refl (start ▹ c.in_ok-stock.ensures) c.in_err-trading_state.ensures c.from_residual-in_err-trading_state.ensures.1

pub returns-in_err-reserved : goal.returns-in_err-reserved
returns-in_err-reserved c = body-stops values 'H' _ _ _ refl (start ▹ c.in_ok-stock.ensures ▹ c.in_ok-trading_state.ensures) c.in_err-reserved.ensures c.from_residual-in_err-reserved.ensures.1

pub returns-in_err-reason : goal.returns-in_err-reason
returns-in_err-reason c = body-stops values 'H' _ _ _ refl (start ▹ c.in_ok-stock.ensures ▹ c.in_ok-trading_state.ensures ▹ c.in_ok-reserved.ensures) c.in_err-reason.ensures c.from_residual-in_err-reason.ensures.1

pub returns : goal.returns
returns c = body_reads 'H' _ refl (c.in_ok-stock.ensures ⨾ c.in_ok-trading_state.ensures ⨾ c.in_ok-reserved.ensures ⨾ c.in_ok-reason.ensures ⨾ end)
