-- `templates::plain` meets its contract.
use borrow.Author.Tests.{le-leb, lt-leb}
use Rattle.templates.specs.Templates.{stays}
use Rattle.templates.proofs.plain.Goals as goal

pub returns-then-b-le126 : goal.returns-then-b-le126
unfolding stays
returns-then-b-le126 c = rw (le-leb 32 _ c.if-b-ge32.true, le-leb _ 126 c.if-b-le126.true)

pub returns-else-b-le126 : goal.returns-else-b-le126
unfolding stays
returns-else-b-le126 c = rw (le-leb 32 _ c.if-b-ge32.true, lt-leb _ 126 c.if-b-le126.false)

pub returns-else-b-ge32 : goal.returns-else-b-ge32
unfolding stays
returns-else-b-ge32 c = rw (lt-leb 32 _ c.if-b-ge32.false)
