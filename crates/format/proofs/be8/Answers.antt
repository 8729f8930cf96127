-- `format::be8` meets its contract.
use mathlib.Core.Path.{sym}
use native.Mathlib.Omega.{arith}
use Rattle.format.proofs.Bytes.{be-split}
use Rattle.format.proofs.be8.Goals as goal

pub returns : goal.returns
returns c = (
  simp (c.be4.ensures.0, c.be4-2.ensures.0) (sym (be-split c.args.s.now c.args.at 4 4 (omega arith))),
  omega (arith, c.be4.ensures.1, c.be4-2.ensures.1),
)
