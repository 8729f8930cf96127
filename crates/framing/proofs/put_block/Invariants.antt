-- The calls so far, from what was sent first on.
use Rattle.std.proofs.Common.{◌≡◌, ◌≤◌, ◌-◌, true, length}
use Rattle.framing.proofs.Loop.{In}
use Rattle.framing.proofs.put_block.Given as goal

abbrev pub invariant-loop-from : goal.invariant-loop-from
invariant-loop-from l = record {
  calls : In l.fn.s.quiet l.fn.s.state.reading l.block l.fn.s.state l.sent.state l.from;
  told : l.sent.quiet ≡ l.fn.s.quiet;
  good : l.sent.written.taken ≡ true;
  long : length l.out ≡ length l.initial.out;
  wide : 137 ≤ length l.out;
}

abbrev pub decreases-loop-from : goal.decreases-loop-from
decreases-loop-from l = length l.block - l.from
