-- `<MarketMakerMode as Code>::name` meets its contract.
use Rattle.codes.specs.declared.market.MarketMakerMode.TheVariants as MarketMakerMode·
use Rattle.codes.specs.Names.{maker_mode_byte, maker_mode_names, maker_mode_from}
use Rattle.codes.proofs.Match.{last_name}
use Rattle.codes.proofs.market.MarketMakerModeCode.name.Goals as goal

pub returns-in-78 : goal.returns-in-78
unfolding maker_mode_from
returns-in-78 c = rw c.in-78.is

pub returns-in-80 : goal.returns-in-80
unfolding maker_mode_from
returns-in-80 c = rw c.in-80.is

pub returns-in-83 : goal.returns-in-83
unfolding maker_mode_from
returns-in-83 c = rw c.in-83.is

pub returns-in-82 : goal.returns-in-82
unfolding maker_mode_from
returns-in-82 c = rw c.in-82.is

pub returns-in_default : goal.returns-in_default
unfolding maker_mode_from
returns-in_default c = last_name maker_mode_byte maker_mode_names MarketMakerMode·.Penalty _ c.in_default.in_default-own.rest
