-- `writer::put_header` meets its contract.
use mathlib.Core.List.{[], ◌∷◌}
use Rattle.format.specs.Rows.{header}
use Rattle.pen.proofs.Puts.{puts, end, ◌⨾◌}
use Rattle.writer.proofs.put_header.Goals as goal

pub returns : goal.returns
returns c =
    let a = c.args in
    puts a.buf.now 0 header (a.size ∷ a.tag ∷ a.locate ∷ a.tracking ∷ a.time ∷ [])
    ((c.set.ensures.buf_after, c.set.ensures.v_bound)
    ⨾ (c.set-2.ensures.buf_after, c.set-2.ensures.v_bound)
    ⨾ (c.set-3.ensures.buf_after, c.set-3.ensures.v_bound)
    ⨾ (c.set-4.ensures.buf_after, c.set-4.ensures.v_bound)
    ⨾ (c.set_u48.ensures, c.requires)
    ⨾ end)
