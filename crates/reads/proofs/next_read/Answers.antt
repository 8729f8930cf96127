-- `reads::next_read` meets its contract.
use mathlib.Core.Path.{◌≡◌, ap, sym, ◌∙◌}
use native.Mathlib.Omega.{arith}
use lib.ListN.{length}
use Rattle.reads.specs.Reads.{held_of, read_of, brought_of}
use Rattle.reads.proofs.Laws.{held-before, fails-empty, brings-none}
use Rattle.reads.proofs.next_read.Goals as goal

pub bring-count-requires : goal.bring-count-requires
bring-count-requires c = rw c.held-n.ensures (held-before c.args.list.now c.due-d.result)

none : (c : goal.Then-failed) → c.held-n.result ≡ 0
none c = c.held-n.ensures ∙ ap (held_of c.args.list.now) c.due-d.ensures ∙ fails-empty _ _ (sym c.fails-failed.ensures ∙ c.if-failed.true)

pub returns-then-failed-clause-value : goal.returns-then-failed-clause-value
unfolding read_of
returns-then-failed-clause-value c = rw (c.bring-count.ensures.value, c.held-n.ensures, c.due-d.ensures, sym c.fails-failed.ensures ∙ c.if-failed.true)

pub returns-then-failed-clause-free_after : goal.returns-then-failed-clause-free_after
returns-then-failed-clause-free_after c =
    let z : c.bring-count.result ≡ 0 = omega (arith, c.bring-count.ensures.value, none c) in
    c.bring-count.ensures.free_after ∙ rw (z, brings-none c.args.list.now c.args.p (length c.args.free.now) (sym c.fails-failed.ensures ∙ c.if-failed.true))

pub returns-else-failed-clause-value : goal.returns-else-failed-clause-value
unfolding read_of
returns-else-failed-clause-value c = rw (c.bring-count.ensures.value, c.held-n.ensures, c.due-d.ensures, sym c.fails-failed.ensures ∙ c.if-failed.false)

pub returns-else-failed-clause-free_after : goal.returns-else-failed-clause-free_after
unfolding brought_of
returns-else-failed-clause-free_after c = c.bring-count.ensures.free_after ∙ rw (c.bring-count.ensures.value, c.held-n.ensures, c.due-d.ensures)
