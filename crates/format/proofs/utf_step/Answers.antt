-- `format::utf_step` meets its contract.
use mathlib.Core.Path.{sym}
use native.Mathlib.Omega.{arith}
use borrow.Author.Tests.{le-leb, lt-leb}
use Rattle.format.specs.Utf8.{utf_step}
use Rattle.format.proofs.Text.{tail_step, due-tail}
use Rattle.format.proofs.utf_step.Goals as goal

pub returns-then-n-eq0 : goal.returns-then-n-eq0
unfolding utf_step
returns-then-n-eq0 c = simp (c.in-Tail.is, c.if-n-eq0.true)

pub returns-then-b-lo : goal.returns-then-b-lo
unfolding utf_step
returns-then-b-lo c = simp (c.in-Tail.is, tail_step c.if-n-eq0.false, lt-leb _ _ c.if-b-lo.true)

pub returns-then-hi-b : goal.returns-then-hi-b
unfolding utf_step
returns-then-hi-b c = simp (c.in-Tail.is, tail_step c.if-n-eq0.false, le-leb _ _ c.if-b-lo.false, lt-leb _ _ c.if-hi-b.true)

pub returns-in-Fresh : goal.returns-in-Fresh
unfolding utf_step
returns-in-Fresh c = simp (c.in-Fresh.is, c.utf_lead.ensures)

pub returns-then-n-eq1 : goal.returns-then-n-eq1
unfolding utf_step
returns-then-n-eq1 c = simp (c.in-Tail.is, le-leb _ _ c.if-b-lo.false, le-leb _ _ c.if-hi-b.false, c.if-n-eq1.true)

pub returns-else-n-eq1 : goal.returns-else-n-eq1
unfolding utf_step
returns-else-n-eq1 c =
    simp (c.in-Tail.is, tail_step c.if-n-eq0.false, le-leb _ _ c.if-b-lo.false, le-leb _ _ c.if-hi-b.false)
    (sym (due-tail _ (omega arith)))

pub returns-in-Bad : goal.returns-in-Bad
unfolding utf_step
returns-in-Bad c = simp c.in-Bad.is
