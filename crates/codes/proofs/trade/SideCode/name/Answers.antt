-- `<Side as Code>::name` meets its contract.
use Rattle.codes.specs.declared.trade.Side.TheVariants as Side·
use Rattle.codes.specs.Names.{side_byte, side_names, side_from}
use Rattle.codes.proofs.Match.{last_name}
use Rattle.codes.proofs.trade.SideCode.name.Goals as goal

pub returns-in-66 : goal.returns-in-66
unfolding side_from
returns-in-66 c = rw c.in-66.is

pub returns-in_default : goal.returns-in_default
unfolding side_from
returns-in_default c = last_name side_byte side_names Side·.Sell _ c.in_default.in_default-own.rest
