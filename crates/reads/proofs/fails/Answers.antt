-- `reads::fails` meets its contract.
use mathlib.Core.Path.{◌∙◌, sym}
use native.Mathlib.Omega.{arith}
use borrow.Author.Tests.{lt-ltb, le-ltb}
use Rattle.reads.specs.Reads.{fails_of}
use Rattle.reads.proofs.Laws.{read-inside}
use Rattle.reads.proofs.fails.Goals as goal
use Rattle.reads.proofs.fails.Goals.{then-p-gt0-via-then-p-gt0, then-p-gt0-via-else-p-gt0+then-not-is_read}

pub returns-then-p-gt0 : goal.returns-then-p-gt0
unfolding fails_of
returns-then-p-gt0 c =
    elim c.then-p-gt0.branch [
      | then-p-gt0-via-then-p-gt0 w ↦ rw (lt-ltb 0 _ w.if-p-gt0.true)
      | then-p-gt0-via-else-p-gt0+then-not-is_read w ↦ rw (le-ltb 0 _ w.if-p-gt0.false, ← c.rest-t.ensures, sym w.is_read.ensures ∙ w.if-not-is_read.true)
    ]

pub head-requires : goal.head-requires
head-requires c = omega (arith, read-inside c.rest-t.result.now (sym c.is_read.ensures ∙ c.if-not-is_read.false))

pub returns : goal.returns
unfolding fails_of
returns c = rw (le-ltb 0 _ c.if-p-gt0.false, ← c.rest-t.ensures, sym c.is_read.ensures ∙ c.if-not-is_read.false, ← c.head.ensures)
