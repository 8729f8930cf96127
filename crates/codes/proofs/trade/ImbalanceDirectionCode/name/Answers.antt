-- `<ImbalanceDirection as Code>::name` meets its contract.
use Rattle.codes.specs.declared.trade.ImbalanceDirection.TheVariants as ImbalanceDirection·
use Rattle.codes.specs.Names.{direction_byte, direction_names, direction_from}
use Rattle.codes.proofs.Match.{last_name}
use Rattle.codes.proofs.trade.ImbalanceDirectionCode.name.Goals as goal

pub returns-in-66 : goal.returns-in-66
unfolding direction_from
returns-in-66 c = rw c.in-66.is

pub returns-in-83 : goal.returns-in-83
unfolding direction_from
returns-in-83 c = rw c.in-83.is

pub returns-in-78 : goal.returns-in-78
unfolding direction_from
returns-in-78 c = rw c.in-78.is

pub returns-in_default : goal.returns-in_default
unfolding direction_from
returns-in_default c = last_name direction_byte direction_names ImbalanceDirection·.InsufficientOrders _ c.in_default.in_default-own.rest
