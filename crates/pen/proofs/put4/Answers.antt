-- `pen::put4` meets its contract.
use Rattle.pen.proofs.Digits.{joins}
use Rattle.pen.proofs.put4.Goals as goal

pub returns : goal.returns
returns c = joins c.args.buf.now c.args.at 2 2 c.args.v c.put2.ensures c.put2-2.ensures
