-- `tables::is_etp_flag` meets its contract.
use mathlib.Core.Path.{refl}
use mathlib.Core.List.{[], ◌∷◌}
use native.Mathlib.Omega.{arith}
use Rattle.format.specs.Ascii.{'␣', 'M', 'Y'}
use Rattle.format.specs.Codes.{etp_flag}
use Rattle.tables.proofs.Codes.{one_of, in-range}
use Rattle.tables.proofs.is_etp_flag.Goals as goal

pub returns-in_default : goal.returns-in_default
returns-in_default c = c.legal.ensures 16 refl

pub returns-in-89 : goal.returns-in-89
unfolding etp_flag
returns-in-89 c = one_of etp_flag ('␣' ∷ 'Y' ∷ []) _ tt c.in-89.is

pub returns-in-89-2 : goal.returns-in-89-2
unfolding etp_flag
returns-in-89-2 c = in-range etp_flag 'M' 2 c.args.b tt (omega arith) (omega arith)
