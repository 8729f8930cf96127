-- `showing::Run::drain` meets its contract.
use borrow.Author.Rules.{rules}
use Rattle.showing.proofs.Answers.{counted}
use native.Mathlib.Omega.{arith}
use Rattle.showing.proofs.Run.drain.Goals as goal

pub loop-self-smaller : goal.loop-self-smaller
loop-self-smaller c =
    let s = c.loop-self.self in
    omega (arith, c.next-self.type_inv, counted s.reading s.last.state s.buf c.next-self.result c.in-Message.field-0 c.next-self.ensures (search rules))
