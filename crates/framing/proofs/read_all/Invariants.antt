-- What was sent so far; with each read more bytes are walked.
use Rattle.std.proofs.Common.{◌≤◌, ◌<◌, ◌-◌, ◌+◌, ◌^◌, length}
use Rattle.framing.proofs.Loop.{SoFar}
use Rattle.framing.proofs.read_all.Given as goal

abbrev pub invariant-loop-input : goal.invariant-loop-input
invariant-loop-input l = SoFar l.fn.begun.quiet l.fn.begun.state.reading l.sent l.brought × (0 < length l.buf) × (137 ≤ length l.out)

abbrev pub decreases-loop-input : goal.decreases-loop-input
decreases-loop-input l = 2 ^ 64 - (l.sent.state.offset + l.sent.state.seen)
