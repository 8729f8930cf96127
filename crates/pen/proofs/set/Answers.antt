-- `pen::set` meets its contract.
use Rattle.std.proofs.Common.{sym, ◌∙◌}
use Rattle.pen.proofs.Digits.{put-fits, put-not}
use Rattle.pen.proofs.set.Goals as goal

pub returns-then-at-WIDTH-clause-buf_after : goal.returns-then-at-WIDTH-clause-buf_after
returns-then-at-WIDTH-clause-buf_after g c =
    rw (c.WIDTH-then-at-WIDTH.ensures, c.wide-n.ensures.0) at c.put.ensures
    ∙ sym (put-fits c.args.buf.now c.args.place g.T.Number.WIDTH (g.T.Number.value c.args.v) (rw c.WIDTH.ensures at c.if-at-WIDTH.true))

pub returns-else-at-WIDTH-clause-buf_after : goal.returns-else-at-WIDTH-clause-buf_after
returns-else-at-WIDTH-clause-buf_after g c =
    sym (put-not c.args.buf.now c.args.place g.T.Number.WIDTH (g.T.Number.value c.args.v) (rw c.WIDTH.ensures at c.if-at-WIDTH.false))
