-- `tallying::skim_strictly` meets its contract. What falls each turn: the messages that the count still allows.
use Prim.Native.Nat.{◌-◌}
use Rattle.tallying.specs.Counts.{Tightly}
use Rattle.tallying.proofs.skim_strictly.Given as goal

abbrev pub invariant-loop-start : goal.invariant-loop-start
invariant-loop-start l = Tightly l.b l.initial.start l.end l.initial.messages l.initial.count l.start l.messages l.count

abbrev pub decreases-loop-start : goal.decreases-loop-start
decreases-loop-start l = 18446744073709551616 - l.messages
