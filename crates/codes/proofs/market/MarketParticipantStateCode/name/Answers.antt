-- `<MarketParticipantState as Code>::name` meets its contract.
use Rattle.codes.specs.declared.market.MarketParticipantState.TheVariants as MarketParticipantState·
use Rattle.codes.specs.Names.{participant_state_byte, participant_state_names, participant_state_from}
use Rattle.codes.proofs.Match.{last_name}
use Rattle.codes.proofs.market.MarketParticipantStateCode.name.Goals as goal

pub returns-in-65 : goal.returns-in-65
unfolding participant_state_from
returns-in-65 c = rw c.in-65.is

pub returns-in-69 : goal.returns-in-69
unfolding participant_state_from
returns-in-69 c = rw c.in-69.is

pub returns-in-87 : goal.returns-in-87
unfolding participant_state_from
returns-in-87 c = rw c.in-87.is

pub returns-in-83 : goal.returns-in-83
unfolding participant_state_from
returns-in-83 c = rw c.in-83.is

pub returns-in_default : goal.returns-in_default
unfolding participant_state_from
returns-in_default c = last_name participant_state_byte participant_state_names MarketParticipantState·.Deleted _ c.in_default.in_default-own.rest
