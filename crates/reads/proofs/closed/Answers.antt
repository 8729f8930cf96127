-- `reads::closed` meets its contract.
use borrow.Author.Tests.{lt-ltb, le-ltb}
use Rattle.reads.specs.Reads.{closes}
use Rattle.reads.proofs.closed.Goals as goal

pub returns-then-t-lt2 : goal.returns-then-t-lt2
unfolding closes
returns-then-t-lt2 c = rw (lt-ltb _ _ c.if-t-lt2.true)

pub returns : goal.returns
unfolding closes
returns c = rw (le-ltb _ _ c.if-t-lt2.false, ← c.head.ensures)
