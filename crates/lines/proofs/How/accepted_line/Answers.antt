-- `lines::How::accepted_line` meets its contract.
use native.Mathlib.Omega.{arith}
use Rattle.text.proofs.Laws.{decimal-20, wrote_none, wrote-append, wrote-long}
use borrow.Author.Rules.{rules}
use Rattle.lines.proofs.How.accepted_line.Goals as goal

pub returns-then-self : goal.returns-then-self
returns-then-self c = rw c.if-self.true (wrote_none _ _ (omega (arith, c.requires.2)))

pub accepted-requires : goal.accepted-requires
accepted-requires c = (
  c.requires.0,
  c.requires.1,
  omega (arith, c.requires.2, c.decimal-a.ensures.next, wrote-long c.decimal-a.ensures, decimal-20 c.args.n (search rules)),
)

pub returns : goal.returns
returns c = rw c.if-self.false (wrote-append c.decimal-a.ensures c.accepted.ensures)
