-- `<TradingState as Code>::name` meets its contract.
use Rattle.codes.specs.declared.market.TradingState.TheVariants as TradingState·
use Rattle.codes.specs.Names.{trading_state_byte, trading_state_names, trading_state_from}
use Rattle.codes.proofs.Match.{last_name}
use Rattle.codes.proofs.market.TradingStateCode.name.Goals as goal

pub returns-in-72 : goal.returns-in-72
unfolding trading_state_from
returns-in-72 c = rw c.in-72.is

pub returns-in-80 : goal.returns-in-80
unfolding trading_state_from
returns-in-80 c = rw c.in-80.is

pub returns-in-81 : goal.returns-in-81
unfolding trading_state_from
returns-in-81 c = rw c.in-81.is

pub returns-in_default : goal.returns-in_default
unfolding trading_state_from
returns-in_default c = last_name trading_state_byte trading_state_names TradingState·.Trading _ c.in_default.in_default-own.rest
