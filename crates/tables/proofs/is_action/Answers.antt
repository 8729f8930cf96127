-- `tables::is_action` meets its contract.
use mathlib.Core.Path.{refl}
use native.Mathlib.Omega.{arith}
use Rattle.format.specs.Ascii.{'0'}
use Rattle.format.specs.Codes.{action}
use Rattle.tables.proofs.Codes.{in-range}
use Rattle.tables.proofs.is_action.Goals as goal

pub returns-in-48 : goal.returns-in-48
unfolding action
returns-in-48 c = in-range action '0' 3 c.args.b tt (omega arith) (omega arith)

pub returns-in_default : goal.returns-in_default
returns-in_default c = c.legal.ensures 19 refl
