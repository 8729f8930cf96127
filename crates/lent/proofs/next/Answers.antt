-- `lent::next` meets its contract: what comes back of the parts is stored into the record, which is what the definition makes of the whole (`next-back`).
use Rattle.lent.proofs.Apart.{next-back}
use Rattle.lent.proofs.next.Goals as goal

pub returns : goal.returns
returns c =
    let p = next-back c.args.reading c.args.s.now c.args.buf.now c.next_of-step.result c.next_of-step.ensures in
    record { value = p.0; s_after = p.1 }
