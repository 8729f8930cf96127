-- `pen::put8` meets its contract.
use Rattle.pen.proofs.Digits.{joins}
use Rattle.pen.proofs.put8.Goals as goal

pub returns : goal.returns
returns c = joins c.args.buf.now c.args.at 4 4 c.args.v c.put4.ensures c.put4-2.ensures
