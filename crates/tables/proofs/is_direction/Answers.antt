-- `tables::is_direction` meets its contract.
use mathlib.Core.Path.{refl}
use mathlib.Core.List.{[], ◌∷◌}
use native.Mathlib.Omega.{arith}
use Rattle.format.specs.Ascii.{'B', 'N', 'S'}
use Rattle.format.specs.Codes.{direction}
use Rattle.tables.proofs.Codes.{one_of, in-range}
use Rattle.tables.proofs.is_direction.Goals as goal

pub returns-in_default : goal.returns-in_default
returns-in_default c = c.legal.ensures 3 refl

pub returns-in-66 : goal.returns-in-66
unfolding direction
returns-in-66 c = one_of direction ('B' ∷ 'S' ∷ []) _ tt c.in-66.is

pub returns-in-66-2 : goal.returns-in-66-2
unfolding direction
returns-in-66-2 c = in-range direction 'N' 2 c.args.b tt (omega arith) (omega arith)
