-- `pen::set_u48` meets its contract.
use Rattle.std.proofs.Common.{sym, ◌∙◌}
use Rattle.pen.proofs.Digits.{joins, put-fits, put-not}
use Rattle.pen.proofs.set_u48.Goals as goal

pub returns-then-at-buf : goal.returns-then-at-buf
returns-then-at-buf c =
    joins c.args.buf.now c.args.place 2 4 c.args.v c.put2.ensures c.put4.ensures
    ∙ sym (put-fits c.args.buf.now c.args.place 6 c.args.v c.if-at-buf.true)

pub returns-else-at-buf : goal.returns-else-at-buf
returns-else-at-buf c = sym (put-not c.args.buf.now c.args.place 6 c.args.v c.if-at-buf.false)
