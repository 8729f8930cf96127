-- `put_bodies::put_delete_order` meets its contract.
use Rattle.pen.specs.Encode.{layout}
use Rattle.pen.proofs.Puts.{body-puts, end, ◌⨾◌}
use Rattle.records.specs.declared.Body.TheVariants as Body·
use Rattle.records.specs.Values.{values}
use Rattle.put_bodies.proofs.put_delete_order.Goals as goal

pub returns : goal.returns
unfolding layout
returns c =
    let a = c.args in
    body-puts a.buf.now (values (Body·.DeleteOrder a.reference))
    ((c.set.ensures.buf_after, c.set.ensures.v_bound)
    ⨾ end)
