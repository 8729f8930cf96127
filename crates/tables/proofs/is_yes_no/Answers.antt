-- `tables::is_yes_no` meets its contract.
use mathlib.Core.Path.{refl}
use mathlib.Core.List.{[], ◌∷◌}
use Rattle.format.specs.Ascii.{'N', 'Y'}
use Rattle.format.specs.Codes.{yes_no}
use Rattle.tables.proofs.Codes.{one_of}
use Rattle.tables.proofs.is_yes_no.Goals as goal

pub returns-in-89 : goal.returns-in-89
unfolding yes_no
returns-in-89 c = one_of yes_no ('N' ∷ 'Y' ∷ []) _ tt c.in-89.is

pub returns-in_default : goal.returns-in_default
returns-in_default c = c.legal.ensures 1 refl
