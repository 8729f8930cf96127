-- `reads::has_more` meets its contract.
use borrow.Author.Tests.{lt-ltb, le-ltb}
use Rattle.reads.specs.Reads.{has_more_of}
use Rattle.reads.proofs.has_more.Goals as goal

pub returns-then-p-gt0 : goal.returns-then-p-gt0
unfolding has_more_of
returns-then-p-gt0 c = rw (lt-ltb 0 _ c.if-p-gt0.true)

pub returns-else-p-gt0 : goal.returns-else-p-gt0
unfolding has_more_of
returns-else-p-gt0 c = rw (le-ltb 0 _ c.if-p-gt0.false, ← c.rest.ensures) c.is_read.ensures
