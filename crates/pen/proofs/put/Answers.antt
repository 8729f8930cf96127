-- `pen::put` meets its contract.
use Rattle.std.proofs.Common.{arith}
use Rattle.pen.proofs.Digits.{digits_one}
use Rattle.pen.proofs.put.Goals as goal

pub returns-in_default : goal.returns-in_default
returns-in_default c = digits_one c.args.buf.now c.args.at c.args.w c.args.v (omega (arith, c.requires.1, c.in_default))
