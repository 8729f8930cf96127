-- A number has at most 20 digits.
use Rattle.std.proofs.Common.{rules, arith}
use Rattle.text.proofs.Laws.{decimal-20, wrote-byte, wrote-append, wrote-long, puts-fits}
use Rattle.text.proofs.number.Goals as goal

pub digits-next-requires : goal.digits-next-requires
digits-next-requires c = omega (arith, decimal-20 c.args.n (search rules), c.has_room.ensures.0 c.if-not-has_room.false)

pub bounds-out-next : goal.bounds-out-next
bounds-out-next c =
    omega (arith, decimal-20 c.args.n (search rules), c.has_room.ensures.0 c.if-not-has_room.false, c.digits-next.ensures.next, wrote-long c.digits-next.ensures)

pub returns : goal.returns
returns c =
    let room = c.has_room.ensures.0 c.if-not-has_room.false in
    puts-fits room
    (wrote-append c.digits-next.ensures
    (wrote-byte _ _ _ (omega (arith, decimal-20 c.args.n (search rules), room, c.digits-next.ensures.next, wrote-long c.digits-next.ensures))))
