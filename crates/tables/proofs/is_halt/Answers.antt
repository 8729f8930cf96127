-- `tables::is_halt` meets its contract.
use mathlib.Core.Path.{refl}
use mathlib.Core.List.{[], ◌∷◌}
use Rattle.format.specs.Ascii.{'H', 'T'}
use Rattle.format.specs.Codes.{halt}
use Rattle.tables.proofs.Codes.{one_of}
use Rattle.tables.proofs.is_halt.Goals as goal

pub returns-in-72 : goal.returns-in-72
unfolding halt
returns-in-72 c = one_of halt ('H' ∷ 'T' ∷ []) _ tt c.in-72.is

pub returns-in_default : goal.returns-in_default
returns-in_default c = c.legal.ensures 21 refl
