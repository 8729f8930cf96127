-- `<HaltAction as Code>::name` meets its contract.
use Rattle.codes.specs.declared.market.HaltAction.TheVariants as HaltAction·
use Rattle.codes.specs.Names.{halt_byte, halt_names, halt_from}
use Rattle.codes.proofs.Match.{last_name}
use Rattle.codes.proofs.market.HaltActionCode.name.Goals as goal

pub returns-in-72 : goal.returns-in-72
unfolding halt_from
returns-in-72 c = rw c.in-72.is

pub returns-in_default : goal.returns-in_default
unfolding halt_from
returns-in_default c = last_name halt_byte halt_names HaltAction·.Resumed _ c.in_default.in_default-own.rest
