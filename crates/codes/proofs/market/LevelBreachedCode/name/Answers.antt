-- `<LevelBreached as Code>::name` meets its contract.
use Rattle.codes.specs.declared.market.LevelBreached.TheVariants as LevelBreached·
use Rattle.codes.specs.Names.{level_byte, level_names, level_from}
use Rattle.codes.proofs.Match.{last_name}
use Rattle.codes.proofs.market.LevelBreachedCode.name.Goals as goal

pub returns-in-49 : goal.returns-in-49
unfolding level_from
returns-in-49 c = rw c.in-49.is

pub returns-in-50 : goal.returns-in-50
unfolding level_from
returns-in-50 c = rw c.in-50.is

pub returns-in_default : goal.returns-in_default
unfolding level_from
returns-in_default c = last_name level_byte level_names LevelBreached·.L3 _ c.in_default.in_default-own.rest
