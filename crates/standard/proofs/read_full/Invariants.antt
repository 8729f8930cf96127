-- What is read stays within the room; the room that is left falls.
use Rattle.std.proofs.Common.{length, ◌-◌, ◌≤◌}
use Rattle.standard.proofs.read_full.Given as goal

abbrev pub invariant-loop-done : goal.invariant-loop-done
invariant-loop-done l = l.done ≤ length l.initial.room

abbrev pub decreases-loop-done : goal.decreases-loop-done
decreases-loop-done l = length l.initial.room - l.done
