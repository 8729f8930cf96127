-- `tallying::skim` meets its contract. What falls each turn: the messages that the count still allows.
use Prim.Native.Nat.{◌-◌}
use Rattle.tallying.specs.Counts.{Skimmed}
use Rattle.tallying.proofs.skim.Given as goal

abbrev pub invariant-loop-s : goal.invariant-loop-s
invariant-loop-s l = Skimmed l.rows l.b l.initial.s l.initial.count l.s l.count

abbrev pub decreases-loop-s : goal.decreases-loop-s
decreases-loop-s l = 18446744073709551616 - l.s.messages
