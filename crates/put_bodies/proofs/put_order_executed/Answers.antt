-- `put_bodies::put_order_executed` meets its contract.
use Rattle.pen.specs.Encode.{layout}
use Rattle.pen.proofs.Puts.{body-puts, end, ◌⨾◌}
use Rattle.records.specs.declared.Body.TheVariants as Body·
use Rattle.records.specs.Values.{values}
use Rattle.put_bodies.proofs.put_order_executed.Goals as goal

pub returns : goal.returns
unfolding layout
returns c =
    let a = c.args in
    body-puts a.buf.now (values (Body·.OrderExecuted a.reference a.executed a.match_number))
    ((c.set.ensures.buf_after, c.set.ensures.v_bound)
    ⨾ (c.set-2.ensures.buf_after, c.set-2.ensures.v_bound)
    ⨾ (c.set-3.ensures.buf_after, c.set-3.ensures.v_bound)
    ⨾ end)
