-- `tables::is_level` meets its contract.
use mathlib.Core.Path.{refl}
use native.Mathlib.Omega.{arith}
use Rattle.format.specs.Ascii.{'1'}
use Rattle.format.specs.Codes.{level}
use Rattle.tables.proofs.Codes.{in-range}
use Rattle.tables.proofs.is_level.Goals as goal

pub returns-in-49 : goal.returns-in-49
unfolding level
returns-in-49 c = in-range level '1' 3 c.args.b tt (omega arith) (omega arith)

pub returns-in_default : goal.returns-in_default
returns-in_default c = c.legal.ensures 18 refl
