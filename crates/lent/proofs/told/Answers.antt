-- `lent::told` meets its contract: what comes back of the parts is stored into the record, which is what the definition makes of the whole (`told_back`).
use Rattle.lent.proofs.Apart.{told_back}
use Rattle.lent.proofs.told.Goals as goal

pub returns : goal.returns
returns c =
    let p = told_back c.args.s.now c.args.n c.told_of-step.result c.told_of-step.ensures in
    record { value = p.0; s_after = p.1 }
