-- `tables::is_event` meets its contract.
use mathlib.Core.Path.{refl}
use mathlib.Core.List.{[], ◌∷◌}
use Rattle.format.specs.Ascii.{'C', 'E', 'M', 'O', 'Q', 'S'}
use Rattle.format.specs.Codes.{event}
use Rattle.tables.proofs.Codes.{one_of}
use Rattle.tables.proofs.is_event.Goals as goal

pub returns-in-79 : goal.returns-in-79
unfolding event
returns-in-79 c = one_of event ('C' ∷ 'E' ∷ 'M' ∷ 'O' ∷ 'Q' ∷ 'S' ∷ []) _ tt c.in-79.is

pub returns-in_default : goal.returns-in_default
returns-in_default c = c.legal.ensures 17 refl
