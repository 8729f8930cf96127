-- `reads::due` meets its contract.
use mathlib.Core.Path.{◌≡◌, ap, ◌∙◌, sym}
use mathlib.Core.Bool.{true}
use native.Mathlib.Omega.{arith}
use borrow.Author.Tests.{lt-ltb, le-ltb}
use lib.ListN.{drop}
use Rattle.reads.specs.Reads.{is_read, due_of}
use Rattle.reads.proofs.Laws.{read-inside, read-far}
use Rattle.reads.proofs.due.Goals as goal
use Rattle.reads.proofs.due.Goals.{then-p-gt0-via-then-p-gt0, then-p-gt0-via-else-p-gt0+then-not-is_read}

pub returns-then-p-gt0 : goal.returns-then-p-gt0
unfolding due_of
returns-then-p-gt0 c =
    elim c.then-p-gt0.branch [
      | then-p-gt0-via-then-p-gt0 w ↦ rw (lt-ltb 0 _ w.if-p-gt0.true)
      | then-p-gt0-via-else-p-gt0+then-not-is_read w ↦ rw (le-ltb 0 _ w.if-p-gt0.false, ← c.rest-t.ensures, sym w.is_read.ensures ∙ w.if-not-is_read.true)
    ]

pub brings-left-requires : goal.brings-left-requires
brings-left-requires c = omega (arith, read-inside c.rest-t.result.now (sym c.is_read.ensures ∙ c.if-not-is_read.false))

pub overflow_add-result : goal.overflow_add-result
overflow_add-result c =
    let r : is_read (drop c.args.p.i c.args.list.now) ≡ true = ap is_read (sym c.rest-t.ensures) ∙ sym c.is_read.ensures ∙ c.if-not-is_read.false in
    omega (arith, read-far c.args.list.now c.args.p.i r)

pub overflow_add-result-2 : goal.overflow_add-result-2
overflow_add-result-2 c =
    let r : is_read (drop c.args.p.i c.args.list.now) ≡ true = ap is_read (sym c.rest-t.ensures) ∙ sym c.is_read.ensures ∙ c.if-not-is_read.false in
    omega (arith, read-far c.args.list.now c.args.p.i r, rw c.rest-t.ensures at c.brings-left.ensures)

pub returns : goal.returns
unfolding due_of
returns c = rw (le-ltb 0 _ c.if-p-gt0.false, ← c.rest-t.ensures, sym c.is_read.ensures ∙ c.if-not-is_read.false, c.brings-left.ensures)
