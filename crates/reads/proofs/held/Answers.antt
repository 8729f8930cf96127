-- `reads::held` meets its contract.
use borrow.Author.Tests.{lt-ltb, le-ltb}
use Rattle.reads.specs.Reads.{held_of}
use Rattle.reads.proofs.held.Goals as goal
use Rattle.reads.proofs.held.Goals.{then-d-via-then-d, then-d-via-else-d+then-d-list}

pub returns-then-d : goal.returns-then-d
unfolding held_of
returns-then-d c =
    elim c.then-d.branch [
      | then-d-via-then-d w ↦ rw (lt-ltb _ _ w.if-d.true)
      | then-d-via-else-d+then-d-list w ↦ rw (le-ltb _ _ w.if-d.false, lt-ltb _ _ w.if-d-list.true)
    ]

pub returns : goal.returns
unfolding held_of
returns c = rw (le-ltb _ _ c.if-d.false, le-ltb _ _ c.if-d-list.false)
