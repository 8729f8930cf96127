-- `tables::is_cross` meets its contract.
use mathlib.Core.Path.{refl}
use mathlib.Core.List.{[], ◌∷◌}
use native.Mathlib.Omega.{arith}
use Rattle.format.specs.Ascii.{'A', 'C', 'H', 'O'}
use Rattle.format.specs.Codes.{cross}
use Rattle.tables.proofs.Codes.{one_of, in-range}
use Rattle.tables.proofs.is_cross.Goals as goal

pub returns-in_default : goal.returns-in_default
returns-in_default c = c.legal.ensures 9 refl

pub returns-in-79 : goal.returns-in-79
unfolding cross
returns-in-79 c = one_of cross ('A' ∷ 'C' ∷ 'O' ∷ []) _ tt c.in-79.is

pub returns-in-79-2 : goal.returns-in-79-2
unfolding cross
returns-in-79-2 c = in-range cross 'H' 2 c.args.b tt (omega arith) (omega arith)
