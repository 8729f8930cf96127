-- `<u8 as Number>::low` meets its contract.
use Rattle.std.proofs.Common.{arith}
use Rattle.format.proofs.U8Number.low.Goals as goal

pub overflow_cast-result : goal.overflow_cast-result
overflow_cast-result c = omega arith
