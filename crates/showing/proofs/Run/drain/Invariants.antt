-- `showing::Run::drain` meets its contract. It ends, since each message is counted.
use Prim.Native.Nat.{◌-◌}
use Rattle.showing.proofs.Run.drain.Given as goal

abbrev pub invariant-loop-self : goal.invariant-loop-self
invariant-loop-self l = Unit {0}

abbrev pub decreases-loop-self : goal.decreases-loop-self
decreases-loop-self l = 18446744073709551616 - l.self.last.state.messages
