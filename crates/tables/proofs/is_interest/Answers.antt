-- `tables::is_interest` meets its contract.
use mathlib.Core.Path.{refl}
use mathlib.Core.List.{[], ◌∷◌}
use native.Mathlib.Omega.{arith}
use Rattle.format.specs.Ascii.{'A', 'N', 'S'}
use Rattle.format.specs.Codes.{interest}
use Rattle.tables.proofs.Codes.{one_of, in-range}
use Rattle.tables.proofs.is_interest.Goals as goal

pub returns-in_default : goal.returns-in_default
returns-in_default c = c.legal.ensures 8 refl

pub returns-in-66 : goal.returns-in-66
unfolding interest
returns-in-66 c = one_of interest ('N' ∷ 'S' ∷ []) _ tt c.in-66.is

pub returns-in-66-2 : goal.returns-in-66-2
unfolding interest
returns-in-66-2 c = in-range interest 'A' 2 c.args.b tt (omega arith) (omega arith)
