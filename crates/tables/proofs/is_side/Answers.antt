-- `tables::is_side` meets its contract.
use mathlib.Core.Path.{refl}
use mathlib.Core.List.{[], ◌∷◌}
use Rattle.format.specs.Ascii.{'B', 'S'}
use Rattle.format.specs.Codes.{side}
use Rattle.tables.proofs.Codes.{one_of}
use Rattle.tables.proofs.is_side.Goals as goal

pub returns-in-66 : goal.returns-in-66
unfolding side
returns-in-66 c = one_of side ('B' ∷ 'S' ∷ []) _ tt c.in-66.is

pub returns-in_default : goal.returns-in_default
returns-in_default c = c.legal.ensures 0 refl
