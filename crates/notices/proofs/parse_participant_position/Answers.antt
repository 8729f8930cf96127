-- `notices::parse_participant_position` meets its contract.
use mathlib.Core.Path.{refl}
use Rattle.format.specs.Ascii.{'L'}
use Rattle.format.proofs.Runs.{body-stops, body_reads, end, ◌⨾◌, start, ◌▹◌}
use Rattle.records.specs.Values.{values}
use Rattle.notices.proofs.parse_participant_position.Goals as goal

pub returns-in_err-mpid : goal.returns-in_err-mpid
returns-in_err-mpid c = body-stops values 'L' _ _ _ refl start c.in_err-mpid.ensures c.from_residual.ensures.1

pub returns-in_err-stock : goal.returns-in_err-stock
returns-in_err-stock c = body-stops values 'L' _ _ _ refl (start ▹ c.in_ok-mpid.ensures) c.in_err-stock.ensures c.from_residual-in_err-stock.ensures.1

pub returns-in_err-primary_market_maker : goal.returns-in_err-primary_market_maker
returns-in_err-primary_market_maker c = body-stops values 'L' _ _ _ refl (start ▹ c.in_ok-mpid.ensures ▹ c.in_ok-stock.ensures) c.in_err-primary_market_maker.ensures c.from_residual-in_err-primary_market_maker.ensures.1

pub returns-in_err-market_maker_mode : goal.returns-in_err-market_maker_mode
returns-in_err-market_maker_mode c = body-stops values 'L' _ _ _ refl (start ▹ c.in_ok-mpid.ensures ▹ c.in_ok-stock.ensures ▹ c.in_ok-primary_market_maker.ensures) c.in_err-market_maker_mode.ensures c.from_residual-in_err-market_maker_mode.ensures.1

pub returns-in_err-market_participant_state : goal.returns-in_err-market_participant_state
returns-in_err-market_participant_state c = body-stops values 'L' _ _ _ refl (start ▹ c.in_ok-mpid.ensures ▹ c.in_ok-stock.ensures ▹ c.in_ok-primary_market_maker.ensures ▹ c.in_ok-market_maker_mode.ensures) c.in_err-market_participant_state.ensures c.from_residual-in_err-market_participant_state.ensures.1

pub returns : goal.returns
returns c = body_reads 'L' _ refl (c.in_ok-mpid.ensures ⨾ c.in_ok-stock.ensures ⨾ c.in_ok-primary_market_maker.ensures ⨾ c.in_ok-market_maker_mode.ensures ⨾ c.in_ok-market_participant_state.ensures ⨾ end)
