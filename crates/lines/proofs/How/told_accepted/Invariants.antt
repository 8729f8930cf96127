-- `lines::How::told_accepted` meets its contract.
use Prim.Native.Nat.{◌-◌}
use Rattle.reader.specs.Window.{window_of}
use Rattle.lines.proofs.Told.{Telling}
use Rattle.lines.proofs.How.told_accepted.Given as goal

abbrev pub invariant-loop-i : goal.invariant-loop-i
invariant-loop-i l = Telling l.self.quiet (window_of l.self.reading) l.s l.have l.from l.offset l.initial.out l.to l.out l.i l.o l.count

abbrev pub decreases-loop-i : goal.decreases-loop-i
decreases-loop-i l = l.have - l.i
