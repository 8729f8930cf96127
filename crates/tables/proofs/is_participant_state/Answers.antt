-- `tables::is_participant_state` meets its contract.
use mathlib.Core.Path.{refl}
use mathlib.Core.List.{[], ◌∷◌}
use native.Mathlib.Omega.{arith}
use Rattle.format.specs.Ascii.{'A', 'D', 'S', 'W'}
use Rattle.format.specs.Codes.{participant_state}
use Rattle.tables.proofs.Codes.{one_of, in-range}
use Rattle.tables.proofs.is_participant_state.Goals as goal

pub returns-in_default : goal.returns-in_default
returns-in_default c = c.legal.ensures 7 refl

pub returns-in-65 : goal.returns-in-65
unfolding participant_state
returns-in-65 c = one_of participant_state ('A' ∷ 'S' ∷ 'W' ∷ []) _ tt c.in-65.is

pub returns-in-65-2 : goal.returns-in-65-2
unfolding participant_state
returns-in-65-2 c = in-range participant_state 'D' 2 c.args.b tt (omega arith) (omega arith)
