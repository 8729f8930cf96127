-- `<MarketCode as Code>::name` meets its contract.
use Rattle.codes.specs.declared.market.MarketCode.TheVariants as MarketCode·
use Rattle.codes.specs.Names.{market_byte, market_names, market_from}
use Rattle.codes.proofs.Match.{last_name}
use Rattle.codes.proofs.market.MarketCodeCode.name.Goals as goal

pub returns-in-81 : goal.returns-in-81
unfolding market_from
returns-in-81 c = rw c.in-81.is

pub returns-in-66 : goal.returns-in-66
unfolding market_from
returns-in-66 c = rw c.in-66.is

pub returns-in_default : goal.returns-in_default
unfolding market_from
returns-in_default c = last_name market_byte market_names MarketCode·.Psx _ c.in_default.in_default-own.rest
