-- `tables::is_category` meets its contract.
use mathlib.Core.Path.{refl}
use mathlib.Core.List.{[], ◌∷◌}
use native.Mathlib.Omega.{arith}
use Rattle.format.specs.Ascii.{'␣', 'A', 'G', 'N', 'P', 'S', 'V', 'Z'}
use Rattle.format.specs.Codes.{category}
use Rattle.tables.proofs.Codes.{one_of, in-range}
use Rattle.tables.proofs.is_category.Goals as goal

pub returns-in_default : goal.returns-in_default
returns-in_default c = c.legal.ensures 10 refl

pub returns-in-81 : goal.returns-in-81
unfolding category
returns-in-81 c = one_of category ('␣' ∷ 'A' ∷ 'G' ∷ 'N' ∷ 'S' ∷ 'V' ∷ 'Z' ∷ []) _ tt c.in-81.is

pub returns-in-81-2 : goal.returns-in-81-2
unfolding category
returns-in-81-2 c = in-range category 'P' 2 c.args.b tt (omega arith) (omega arith)
