-- A number has at most 20 digits.
use Rattle.std.proofs.Common.{rules, arith}
use Rattle.text.proofs.Laws.{decimal-20}
use Rattle.text.proofs.decimal.Goals as goal

pub digits-requires : goal.digits-requires
digits-requires c = omega (arith, decimal-20 c.args.n (search rules), c.has_room.ensures.0 c.if-not-has_room.false)
