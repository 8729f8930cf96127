-- `tables::is_tier` meets its contract.
use mathlib.Core.Path.{refl}
use mathlib.Core.List.{[], ◌∷◌}
use native.Mathlib.Omega.{arith}
use Rattle.format.specs.Ascii.{'␣', '1'}
use Rattle.format.specs.Codes.{tier}
use Rattle.tables.proofs.Codes.{one_of, in-range}
use Rattle.tables.proofs.is_tier.Goals as goal

pub returns-in_default : goal.returns-in_default
returns-in_default c = c.legal.ensures 15 refl

pub returns-in-32 : goal.returns-in-32
unfolding tier
returns-in-32 c = one_of tier ('␣' ∷ []) _ tt c.in-32.is

pub returns-in-32-2 : goal.returns-in-32-2
unfolding tier
returns-in-32-2 c = in-range tier '1' 2 c.args.b tt (omega arith) (omega arith)
