-- `put_bodies::put_imbalance_indicator` meets its contract.
use Rattle.pen.specs.Encode.{layout}
use Rattle.pen.proofs.Puts.{body-puts, length-body, end, ◌⨾◌, ◌by◌⨾◌}
use Rattle.records.specs.declared.Body.TheVariants as Body·
use Rattle.records.specs.Values.{values}
use Rattle.put_bodies.proofs.put_imbalance_indicator.Goals as goal

pub returns : goal.returns
unfolding layout
returns c =
    let a = c.args in
    body-puts a.buf.now (values (Body·.Imbalance a.x))
    ((c.set.ensures.buf_after, c.set.ensures.v_bound)
    ⨾ (c.set-2.ensures.buf_after, c.set-2.ensures.v_bound)
    ⨾ (c.set-3.ensures.buf_after, c.set-3.ensures.v_bound) by c.byte.ensures
    ⨾ (c.set-4.ensures.buf_after, c.set-4.ensures.v_bound)
    ⨾ (c.set-5.ensures.buf_after, c.set-5.ensures.v_bound)
    ⨾ (c.set-6.ensures.buf_after, c.set-6.ensures.v_bound)
    ⨾ (c.set-7.ensures.buf_after, c.set-7.ensures.v_bound)
    ⨾ (c.set-8.ensures.buf_after, c.set-8.ensures.v_bound) by c.byte-2.ensures
    ⨾ (c.set-9.ensures.buf_after, c.set-9.ensures.v_bound)
    ⨾ end)

pub shape_of-buf : goal.shape_of-buf
shape_of-buf c =
    let a =
    c.args in
    length-body a.buf.now (values (Body·.Imbalance a.x)) (returns c)
