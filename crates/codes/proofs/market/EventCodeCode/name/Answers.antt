-- `<EventCode as Code>::name` meets its contract.
use Rattle.codes.specs.declared.market.EventCode.TheVariants as EventCode·
use Rattle.codes.specs.Names.{event_byte, event_names, event_from}
use Rattle.codes.proofs.Match.{last_name}
use Rattle.codes.proofs.market.EventCodeCode.name.Goals as goal

pub returns-in-79 : goal.returns-in-79
unfolding event_from
returns-in-79 c = rw c.in-79.is

pub returns-in-83 : goal.returns-in-83
unfolding event_from
returns-in-83 c = rw c.in-83.is

pub returns-in-81 : goal.returns-in-81
unfolding event_from
returns-in-81 c = rw c.in-81.is

pub returns-in-77 : goal.returns-in-77
unfolding event_from
returns-in-77 c = rw c.in-77.is

pub returns-in-69 : goal.returns-in-69
unfolding event_from
returns-in-69 c = rw c.in-69.is

pub returns-in_default : goal.returns-in_default
unfolding event_from
returns-in_default c = last_name event_byte event_names EventCode·.EndOfMessages _ c.in_default.in_default-own.rest
