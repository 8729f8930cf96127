-- `lines::digits::digit` meets its contract.
use native.Mathlib.Omega.{arith}
use Rattle.text.proofs.Laws.{decimal-one, wrote-byte}
use Rattle.lines.proofs.digits.digit.Goals as goal

pub returns : goal.returns
returns c = rw (decimal-one c.args.n (omega arith)) (wrote-byte _ _ _ (omega arith))
