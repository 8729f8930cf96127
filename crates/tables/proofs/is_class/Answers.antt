-- `tables::is_class` meets its contract.
use mathlib.Core.Path.{refl}
use mathlib.Core.List.{[], ◌∷◌}
use native.Mathlib.Omega.{arith}
use Rattle.format.specs.Ascii.{'A', 'F', 'I', 'L', 'N'}
use Rattle.format.specs.Codes.{class}
use Rattle.tables.proofs.Codes.{one_of, in-range}
use Rattle.tables.proofs.is_class.Goals as goal

pub returns-in_default : goal.returns-in_default
returns-in_default c = c.legal.ensures 12 refl

pub returns-in-65 : goal.returns-in-65
unfolding class
returns-in-65 c = one_of class ('F' ∷ 'I' ∷ 'L' ∷ []) _ tt c.in-65.is

pub returns-in-65-2 : goal.returns-in-65-2
unfolding class
returns-in-65-2 c = in-range class 'A' 3 c.args.b tt (omega arith) (omega arith)

pub returns-in-65-3 : goal.returns-in-65-3
unfolding class
returns-in-65-3 c = in-range class 'N' 10 c.args.b tt (omega arith) (omega arith)
