-- `tables::is_status` meets its contract.
use mathlib.Core.Path.{refl}
use mathlib.Core.List.{[], ◌∷◌}
use native.Mathlib.Omega.{arith}
use Rattle.format.specs.Ascii.{'␣', 'C', 'G', 'J', 'N', 'Q', 'S'}
use Rattle.format.specs.Codes.{status}
use Rattle.tables.proofs.Codes.{one_of, in-range}
use Rattle.tables.proofs.is_status.Goals as goal

pub returns-in_default : goal.returns-in_default
returns-in_default c = c.legal.ensures 11 refl

pub returns-in-78 : goal.returns-in-78
unfolding status
returns-in-78 c = one_of status ('␣' ∷ 'N' ∷ 'Q' ∷ 'S' ∷ []) _ tt c.in-78.is

pub returns-in-78-2 : goal.returns-in-78-2
unfolding status
returns-in-78-2 c = in-range status 'C' 3 c.args.b tt (omega arith) (omega arith)

pub returns-in-78-3 : goal.returns-in-78-3
unfolding status
returns-in-78-3 c = in-range status 'G' 2 c.args.b tt (omega arith) (omega arith)

pub returns-in-78-4 : goal.returns-in-78-4
unfolding status
returns-in-78-4 c = in-range status 'J' 2 c.args.b tt (omega arith) (omega arith)
