-- `tables::is_qualifier` meets its contract.
use mathlib.Core.Path.{refl}
use mathlib.Core.List.{[], ◌∷◌}
use Rattle.format.specs.Ascii.{'A', 'C'}
use Rattle.format.specs.Codes.{qualifier}
use Rattle.tables.proofs.Codes.{one_of}
use Rattle.tables.proofs.is_qualifier.Goals as goal

pub returns-in-65 : goal.returns-in-65
unfolding qualifier
returns-in-65 c = one_of qualifier ('A' ∷ 'C' ∷ []) _ tt c.in-65.is

pub returns-in_default : goal.returns-in_default
returns-in_default c = c.legal.ensures 5 refl
