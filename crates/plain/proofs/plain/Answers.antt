-- `plain::plain` meets its contract.
use native.Mathlib.Omega.{arith}
use borrow.Author.Tests.{lt-leb, le-leb}
use Rattle.plain.specs.Plain.{plain_of}
use Rattle.plain.proofs.Numbers.{number-there, number_is}
use Rattle.plain.proofs.plain.Goals as goal

pub returns-then-w-lt52 : goal.returns-then-w-lt52
unfolding plain_of
returns-then-w-lt52 c = rw (lt-leb _ _ c.if-w-lt52.true)

pub returns-in_default : goal.returns-in_default
returns-in_default c = absurd (number-there _ 26 _ (omega (arith, c.if-w-lt52.false)) c.in_default.ensures)

pub returns : goal.returns
unfolding plain_of
returns c =
    let s = number_is _ 26 (omega (arith, c.if-w-lt52.false)) c.in-Ok.ensures in
    rw (le-leb _ _ c.if-w-lt52.false) (rw (c.row.ensures, c.row-2.ensures, s) at c.end_by.ensures)
