-- `format::be4` meets its contract.
use Rattle.std.proofs.Common.{sym, arith}
use Rattle.format.proofs.Bytes.{be-four}
use Rattle.format.proofs.be4.Goals as goal

pub returns : goal.returns
returns c = (
  simp (c.from.ensures, c.from-2.ensures, c.from-3.ensures, c.from-4.ensures) (sym (be-four c.args.s.now c.args.at c.requires)),
  omega arith,
)
