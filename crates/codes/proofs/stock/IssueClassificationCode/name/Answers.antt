-- `<IssueClassification as Code>::name` meets its contract.
use Rattle.codes.specs.declared.stock.IssueClassification.TheVariants as IssueClassification·
use Rattle.codes.specs.Names.{class_byte, class_names, class_from}
use Rattle.codes.proofs.Match.{last_name}
use Rattle.codes.proofs.stock.IssueClassificationCode.name.Goals as goal

pub returns-in-65 : goal.returns-in-65
unfolding class_from
returns-in-65 c = rw c.in-65.is

pub returns-in-66 : goal.returns-in-66
unfolding class_from
returns-in-66 c = rw c.in-66.is

pub returns-in-67 : goal.returns-in-67
unfolding class_from
returns-in-67 c = rw c.in-67.is

pub returns-in-70 : goal.returns-in-70
unfolding class_from
returns-in-70 c = rw c.in-70.is

pub returns-in-73 : goal.returns-in-73
unfolding class_from
returns-in-73 c = rw c.in-73.is

pub returns-in-76 : goal.returns-in-76
unfolding class_from
returns-in-76 c = rw c.in-76.is

pub returns-in-78 : goal.returns-in-78
unfolding class_from
returns-in-78 c = rw c.in-78.is

pub returns-in-79 : goal.returns-in-79
unfolding class_from
returns-in-79 c = rw c.in-79.is

pub returns-in-80 : goal.returns-in-80
unfolding class_from
returns-in-80 c = rw c.in-80.is

pub returns-in-81 : goal.returns-in-81
unfolding class_from
returns-in-81 c = rw c.in-81.is

pub returns-in-82 : goal.returns-in-82
unfolding class_from
returns-in-82 c = rw c.in-82.is

pub returns-in-83 : goal.returns-in-83
unfolding class_from
returns-in-83 c = rw c.in-83.is

pub returns-in-84 : goal.returns-in-84
unfolding class_from
returns-in-84 c = rw c.in-84.is

pub returns-in-85 : goal.returns-in-85
unfolding class_from
returns-in-85 c = rw c.in-85.is

pub returns-in-86 : goal.returns-in-86
unfolding class_from
returns-in-86 c = rw c.in-86.is

pub returns-in_default : goal.returns-in_default
unfolding class_from
returns-in_default c = last_name class_byte class_names IssueClassification·.Warrant _ c.in_default.in_default-own.rest
