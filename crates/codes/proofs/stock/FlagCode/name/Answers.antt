-- `<Flag as Code>::name` meets its contract.
use Rattle.std.proofs.Common.{None}
use Rattle.codes.specs.Names.{flag_byte, flag_names, flag_from}
use Rattle.codes.proofs.Match.{last_name}
use Rattle.codes.proofs.stock.FlagCode.name.Goals as goal

pub returns-in-89 : goal.returns-in-89
unfolding flag_from
returns-in-89 c = rw c.in-89.is

pub returns-in-78 : goal.returns-in-78
unfolding flag_from
returns-in-78 c = rw c.in-78.is

pub returns-in_default : goal.returns-in_default
unfolding flag_from
returns-in_default c = last_name flag_byte flag_names None _ c.in_default.in_default-own.rest
