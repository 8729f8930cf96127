-- `reads::brings` meets its contract.
use borrow.Author.Tests.{lt-ltb, le-ltb}
use Rattle.reads.specs.Reads.{brings_of}
use Rattle.reads.proofs.brings.Goals as goal

pub returns-then-n-gt-MOST : goal.returns-then-n-gt-MOST
unfolding brings_of
returns-then-n-gt-MOST c = rw (← c.head-n.ensures, lt-ltb _ _ c.if-n-gt-MOST.true)

pub returns-else-n-gt-MOST : goal.returns-else-n-gt-MOST
unfolding brings_of
returns-else-n-gt-MOST c = rw (← c.head-n.ensures, le-ltb _ _ c.if-n-gt-MOST.false)
