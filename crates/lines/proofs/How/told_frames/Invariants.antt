-- What was told so far, and counted.
use Rattle.std.proofs.Common.{◌-◌}
use Rattle.reader.specs.Window.{window_of}
use Rattle.lines.proofs.Told.{Passing}
use Rattle.lines.proofs.How.told_frames.Given as goal

abbrev pub invariant-loop-refusal : goal.invariant-loop-refusal
invariant-loop-refusal l = Passing l.self.quiet (window_of l.self.reading) l.s l.have l.from l.fn.begun.offset l.fn.begun.frames l.fn.begun.accepted l.initial.out l.to l.out l.i l.o l.offset l.frames l.accepted

abbrev pub decreases-loop-refusal : goal.decreases-loop-refusal
decreases-loop-refusal l = l.have - l.i
