-- `reads::is_read` meets its contract.
use borrow.Author.Tests.{lt-ltb, le-ltb}
use Rattle.reads.specs.Reads.{is_read}
use Rattle.reads.proofs.is_read.Goals as goal

pub returns-then-t-lt2 : goal.returns-then-t-lt2
unfolding is_read
returns-then-t-lt2 c = rw (lt-ltb _ _ c.if-t-lt2.true)

pub returns-then-n-gt-MOST : goal.returns-then-n-gt-MOST
unfolding is_read
returns-then-n-gt-MOST c = rw (le-ltb _ _ c.if-t-lt2.false, ← c.head-n.ensures, lt-ltb _ _ c.if-n-gt-MOST.true)

pub returns : goal.returns
unfolding is_read
returns c = rw (le-ltb _ _ c.if-t-lt2.false, ← c.head-n.ensures, le-ltb _ _ c.if-n-gt-MOST.false)
