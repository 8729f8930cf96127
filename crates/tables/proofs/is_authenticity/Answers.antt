-- `tables::is_authenticity` meets its contract.
use mathlib.Core.Path.{refl}
use mathlib.Core.List.{[], ◌∷◌}
use Rattle.format.specs.Ascii.{'P', 'T'}
use Rattle.format.specs.Codes.{authenticity}
use Rattle.tables.proofs.Codes.{one_of}
use Rattle.tables.proofs.is_authenticity.Goals as goal

pub returns-in-80 : goal.returns-in-80
unfolding authenticity
returns-in-80 c = one_of authenticity ('P' ∷ 'T' ∷ []) _ tt c.in-80.is

pub returns-in_default : goal.returns-in_default
returns-in_default c = c.legal.ensures 13 refl
