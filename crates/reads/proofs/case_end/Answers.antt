use mathlib.Core.Path.{◌∙◌, sym}
use native.Mathlib.Omega.{arith}
use lib.ListN.{length-drop}
use Rattle.reads.proofs.Laws.{read-inside, passing-none, passing-more, case-closed, case_open}
use Rattle.reads.proofs.case_end.Goals as goal

pub loop-t-init : goal.loop-t-init
loop-t-init c = rw c.rest-t.ensures (passing-none c.args.list.now c.args.from)

pub brings-requires : goal.brings-requires
brings-requires c = omega (arith, read-inside c.loop-t.t.now (sym c.is_read.ensures ∙ c.loop-t-test.true))

pub overflow_add-brings : goal.overflow_add-brings
overflow_add-brings c = omega (arith, c.brings.ensures, c.loop-t.invariant.inside, read-inside c.loop-t.t.now (sym c.is_read.ensures ∙ c.loop-t-test.true))

pub loop-t-smaller : goal.loop-t-smaller
loop-t-smaller c =
    let h = read-inside c.loop-t.t.now (sym c.is_read.ensures ∙ c.loop-t-test.true) in
    rw (c.rest-t-in-loop-t.ensures, length-drop) (omega (arith, c.brings.ensures, h))

pub loop-t-preserved : goal.loop-t-preserved
loop-t-preserved c = rw (c.rest-t-in-loop-t.ensures, c.brings.ensures) (passing-more c.args.list.now c.args.from c.loop-t.t.now c.loop-t.invariant (sym c.is_read.ensures ∙ c.loop-t-test.true))

pub returns-then-closed : goal.returns-then-closed
returns-then-closed c = sym (case-closed c.args.list.now c.args.from c.loop-t.t.now c.loop-t.invariant (sym c.is_read.ensures ∙ c.loop-t-test.false) (sym c.closed.ensures ∙ c.if-closed.true))

pub returns : goal.returns
returns c = sym (case_open c.args.list.now c.args.from c.loop-t.t.now c.loop-t.invariant (sym c.is_read.ensures ∙ c.loop-t-test.false) (sym c.closed.ensures ∙ c.if-closed.false))
