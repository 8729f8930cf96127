-- `<FinancialStatus as Code>::name` meets its contract.
use Rattle.codes.specs.declared.stock.FinancialStatus.TheVariants as FinancialStatus·
use Rattle.codes.specs.Names.{status_byte, status_names, status_from}
use Rattle.codes.proofs.Match.{last_name}
use Rattle.codes.proofs.stock.FinancialStatusCode.name.Goals as goal

pub returns-in-78 : goal.returns-in-78
unfolding status_from
returns-in-78 c = rw c.in-78.is

pub returns-in-68 : goal.returns-in-68
unfolding status_from
returns-in-68 c = rw c.in-68.is

pub returns-in-69 : goal.returns-in-69
unfolding status_from
returns-in-69 c = rw c.in-69.is

pub returns-in-81 : goal.returns-in-81
unfolding status_from
returns-in-81 c = rw c.in-81.is

pub returns-in-83 : goal.returns-in-83
unfolding status_from
returns-in-83 c = rw c.in-83.is

pub returns-in-71 : goal.returns-in-71
unfolding status_from
returns-in-71 c = rw c.in-71.is

pub returns-in-72 : goal.returns-in-72
unfolding status_from
returns-in-72 c = rw c.in-72.is

pub returns-in-74 : goal.returns-in-74
unfolding status_from
returns-in-74 c = rw c.in-74.is

pub returns-in-75 : goal.returns-in-75
unfolding status_from
returns-in-75 c = rw c.in-75.is

pub returns-in-67 : goal.returns-in-67
unfolding status_from
returns-in-67 c = rw c.in-67.is

pub returns-in_default : goal.returns-in_default
unfolding status_from
returns-in_default c = last_name status_byte status_names FinancialStatus·.Unavailable _ c.in_default.in_default-own.rest
