-- `<CrossType as Code>::name` meets its contract.
use Rattle.codes.specs.declared.trade.CrossType.TheVariants as CrossType·
use Rattle.codes.specs.Names.{cross_byte, cross_names, cross_from}
use Rattle.codes.proofs.Match.{last_name}
use Rattle.codes.proofs.trade.CrossTypeCode.name.Goals as goal

pub returns-in-79 : goal.returns-in-79
unfolding cross_from
returns-in-79 c = rw c.in-79.is

pub returns-in-67 : goal.returns-in-67
unfolding cross_from
returns-in-67 c = rw c.in-67.is

pub returns-in-72 : goal.returns-in-72
unfolding cross_from
returns-in-72 c = rw c.in-72.is

pub returns-in-73 : goal.returns-in-73
unfolding cross_from
returns-in-73 c = rw c.in-73.is

pub returns-in_default : goal.returns-in_default
unfolding cross_from
returns-in_default c = last_name cross_byte cross_names CrossType·.ExtendedTradingClose _ c.in_default.in_default-own.rest
