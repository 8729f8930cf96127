-- `tables::is_trading_state` meets its contract.
use mathlib.Core.Path.{refl}
use mathlib.Core.List.{[], ◌∷◌}
use native.Mathlib.Omega.{arith}
use Rattle.format.specs.Ascii.{'H', 'P', 'T'}
use Rattle.format.specs.Codes.{trading_state}
use Rattle.tables.proofs.Codes.{one_of, in-range}
use Rattle.tables.proofs.is_trading_state.Goals as goal

pub returns-in_default : goal.returns-in_default
returns-in_default c = c.legal.ensures 2 refl

pub returns-in-72 : goal.returns-in-72
unfolding trading_state
returns-in-72 c = one_of trading_state ('H' ∷ 'T' ∷ []) _ tt c.in-72.is

pub returns-in-72-2 : goal.returns-in-72-2
unfolding trading_state
returns-in-72-2 c = in-range trading_state 'P' 2 c.args.b tt (omega arith) (omega arith)
