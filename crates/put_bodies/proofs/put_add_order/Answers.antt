-- `put_bodies::put_add_order` meets its contract.
use Rattle.pen.proofs.Puts.{end, ◌⨾◌, ◌by◌⨾◌}
use Rattle.put_bodies.proofs.Orders.{order-puts}
use Rattle.put_bodies.proofs.put_add_order.Goals as goal

pub returns : goal.returns
returns c =
    let a = c.args in
    order-puts a.buf.now a.x a.x.mpid
    ((c.set.ensures.buf_after, c.set.ensures.v_bound)
    ⨾ (c.set-2.ensures.buf_after, c.set-2.ensures.v_bound) by c.byte.ensures
    ⨾ (c.set-3.ensures.buf_after, c.set-3.ensures.v_bound)
    ⨾ (c.set-4.ensures.buf_after, c.set-4.ensures.v_bound)
    ⨾ (c.set-5.ensures.buf_after, c.set-5.ensures.v_bound)
    ⨾ end)
    c.put_mpid.ensures
