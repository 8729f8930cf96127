-- `<InterestFlag as Code>::name` meets its contract.
use Rattle.codes.specs.declared.trade.InterestFlag.TheVariants as InterestFlag·
use Rattle.codes.specs.Names.{interest_byte, interest_names, interest_from}
use Rattle.codes.proofs.Match.{last_name}
use Rattle.codes.proofs.trade.InterestFlagCode.name.Goals as goal

pub returns-in-66 : goal.returns-in-66
unfolding interest_from
returns-in-66 c = rw c.in-66.is

pub returns-in-83 : goal.returns-in-83
unfolding interest_from
returns-in-83 c = rw c.in-83.is

pub returns-in-65 : goal.returns-in-65
unfolding interest_from
returns-in-65 c = rw c.in-65.is

pub returns-in_default : goal.returns-in_default
unfolding interest_from
returns-in_default c = last_name interest_byte interest_names InterestFlag·.RPINoneAvailable _ c.in_default.in_default-own.rest
