-- `<RegShoAction as Code>::name` meets its contract.
use Rattle.codes.specs.declared.market.RegShoAction.TheVariants as RegShoAction·
use Rattle.codes.specs.Names.{action_byte, action_names, action_from}
use Rattle.codes.proofs.Match.{last_name}
use Rattle.codes.proofs.market.RegShoActionCode.name.Goals as goal

pub returns-in-48 : goal.returns-in-48
unfolding action_from
returns-in-48 c = rw c.in-48.is

pub returns-in-49 : goal.returns-in-49
unfolding action_from
returns-in-49 c = rw c.in-49.is

pub returns-in_default : goal.returns-in_default
unfolding action_from
returns-in_default c = last_name action_byte action_names RegShoAction·.Extant _ c.in_default.in_default-own.rest
