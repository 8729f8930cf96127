-- `lent::told_failed` meets its contract: what comes back of the parts is stored into the record, which is what the definition makes of the whole (`failed-back`).
use Rattle.lent.proofs.Apart.{failed-back}
use Rattle.lent.proofs.told_failed.Goals as goal

pub returns : goal.returns
returns c =
    let p = failed-back c.args.s.now c.told_failed_of-step.result c.told_failed_of-step.ensures in
    record { value = p.0; s_after = p.1 }
