-- `tables::is_maker_mode` meets its contract.
use mathlib.Core.Path.{refl}
use mathlib.Core.List.{[], ◌∷◌}
use native.Mathlib.Omega.{arith}
use Rattle.format.specs.Ascii.{'L', 'N', 'P', 'R'}
use Rattle.format.specs.Codes.{maker_mode}
use Rattle.tables.proofs.Codes.{one_of, in-range}
use Rattle.tables.proofs.is_maker_mode.Goals as goal

pub returns-in_default : goal.returns-in_default
returns-in_default c = c.legal.ensures 6 refl

pub returns-in-78 : goal.returns-in-78
unfolding maker_mode
returns-in-78 c = one_of maker_mode ('L' ∷ 'N' ∷ 'P' ∷ []) _ tt c.in-78.is

pub returns-in-78-2 : goal.returns-in-78-2
unfolding maker_mode
returns-in-78-2 c = in-range maker_mode 'R' 2 c.args.b tt (omega arith) (omega arith)
