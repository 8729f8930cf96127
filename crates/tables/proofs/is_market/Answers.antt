-- `tables::is_market` meets its contract.
use mathlib.Core.Path.{refl}
use mathlib.Core.List.{[], ◌∷◌}
use Rattle.format.specs.Ascii.{'B', 'Q', 'X'}
use Rattle.format.specs.Codes.{market}
use Rattle.tables.proofs.Codes.{one_of}
use Rattle.tables.proofs.is_market.Goals as goal

pub returns-in-81 : goal.returns-in-81
unfolding market
returns-in-81 c = one_of market ('B' ∷ 'Q' ∷ 'X' ∷ []) _ tt c.in-81.is

pub returns-in_default : goal.returns-in_default
returns-in_default c = c.legal.ensures 20 refl
