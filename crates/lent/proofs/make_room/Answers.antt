-- `lent::make_room` meets its contract: what comes back of the parts is stored into the record, which is what the definition makes of the whole (`room_back`).
use Rattle.lent.proofs.Apart.{room_back}
use Rattle.lent.proofs.make_room.Goals as goal

pub returns : goal.returns
returns c =
    let r = c.make_room_of-step in
    let p = room_back c.args.s.now c.args.buf.now r.result r.new.buf (r.ensures.value, r.ensures.buf_after) in
    record { value = p.0; s_after = p.1.0; buf_after = p.1.1 }
