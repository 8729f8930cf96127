-- `format::be2` meets its contract.
use Rattle.std.proofs.Common.{sym, arith}
use Rattle.format.proofs.Bytes.{be-two}
use Rattle.format.proofs.be2.Goals as goal

pub returns : goal.returns
returns c = (simp (c.from.ensures, c.from-2.ensures) (sym (be-two c.args.s.now c.args.at c.requires)), omega arith)
