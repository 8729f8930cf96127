-- `tables::is_imbalance_cross` meets its contract.
use mathlib.Core.Path.{refl}
use mathlib.Core.List.{[], ◌∷◌}
use Rattle.format.specs.Ascii.{'A', 'C', 'H', 'O'}
use Rattle.format.specs.Codes.{imbalance_cross}
use Rattle.tables.proofs.Codes.{one_of}
use Rattle.tables.proofs.is_imbalance_cross.Goals as goal

pub returns-in-79 : goal.returns-in-79
unfolding imbalance_cross
returns-in-79 c = one_of imbalance_cross ('A' ∷ 'C' ∷ 'H' ∷ 'O' ∷ []) _ tt c.in-79.is

pub returns-in_default : goal.returns-in_default
returns-in_default c = c.legal.ensures 4 refl
