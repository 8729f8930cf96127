-- `tallying::drain` meets its contract. What falls each turn: the messages that the count still allows.
use Prim.Native.Nat.{◌-◌}
use Rattle.tallying.specs.Counts.{Counted}
use Rattle.tallying.proofs.drain.Given as goal

abbrev pub invariant-loop-message : goal.invariant-loop-message
invariant-loop-message l = Counted l.reading l.b l.initial.s l.initial.count l.s l.count

abbrev pub decreases-loop-message : goal.decreases-loop-message
decreases-loop-message l = 18446744073709551616 - l.s.messages
