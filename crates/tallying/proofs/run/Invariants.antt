-- `tallying::run` meets its contract. What falls each turn: the reads that the count still allows.
use Prim.Native.Nat.{◌-◌}
use Rattle.tallying.specs.Counts.{Counters}
use Rattle.tallying.proofs.Going.{Going}
use Rattle.tallying.proofs.run.Given as goal

abbrev pub invariant-loop-buf : goal.invariant-loop-buf
invariant-loop-buf l = Counters l.count l.s.messages × Going l.reading l.initial.count l.s l.b l.buf l.count

abbrev pub decreases-loop-buf : goal.decreases-loop-buf
decreases-loop-buf l = 18446744073709551616 - l.s.read_calls
