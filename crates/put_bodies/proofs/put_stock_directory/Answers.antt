-- `put_bodies::put_stock_directory` meets its contract.
use Rattle.pen.specs.Encode.{layout}
use Rattle.pen.proofs.Puts.{body-puts, length-body, end, ◌⨾◌, ◌by◌⨾◌}
use Rattle.records.specs.declared.Body.TheVariants as Body·
use Rattle.records.specs.Values.{values}
use Rattle.put_bodies.proofs.put_stock_directory.Goals as goal

pub returns : goal.returns
unfolding layout
returns c =
    let a = c.args in
    body-puts a.buf.now (values (Body·.StockDirectory a.x))
    ((c.set.ensures.buf_after, c.set.ensures.v_bound)
    ⨾ (c.set-2.ensures.buf_after, c.set-2.ensures.v_bound) by c.byte.ensures
    ⨾ (c.set-3.ensures.buf_after, c.set-3.ensures.v_bound) by c.byte-2.ensures
    ⨾ (c.set-4.ensures.buf_after, c.set-4.ensures.v_bound)
    ⨾ (c.set-5.ensures.buf_after, c.set-5.ensures.v_bound) by c.byte-3.ensures
    ⨾ (c.set-6.ensures.buf_after, c.set-6.ensures.v_bound) by c.byte-4.ensures
    ⨾ (c.set-7.ensures.buf_after, c.set-7.ensures.v_bound) by c.subtype_code.ensures
    ⨾ (c.set-8.ensures.buf_after, c.set-8.ensures.v_bound) by c.byte-5.ensures
    ⨾ (c.set-9.ensures.buf_after, c.set-9.ensures.v_bound) by c.byte-6.ensures
    ⨾ (c.set-10.ensures.buf_after, c.set-10.ensures.v_bound) by c.byte-7.ensures
    ⨾ (c.set-11.ensures.buf_after, c.set-11.ensures.v_bound) by c.byte-8.ensures
    ⨾ (c.set-12.ensures.buf_after, c.set-12.ensures.v_bound) by c.byte-9.ensures
    ⨾ (c.set-13.ensures.buf_after, c.set-13.ensures.v_bound)
    ⨾ (c.set-14.ensures.buf_after, c.set-14.ensures.v_bound) by c.byte-10.ensures
    ⨾ end)

pub shape_of-buf : goal.shape_of-buf
shape_of-buf c =
    let a =
    c.args in
    length-body a.buf.now (values (Body·.StockDirectory a.x)) (returns c)
