-- `reads::case_end` meets its contract. The loop's invariant: what stands behind the other reads is what stands behind all.
use lib.ListN.{length}
use Rattle.reads.proofs.Laws.{Passing}
use Rattle.reads.proofs.case_end.Given as goal

abbrev pub invariant-loop-t : goal.invariant-loop-t
invariant-loop-t l = Passing l.fn.list l.fn.from l.t

abbrev pub decreases-loop-t : goal.decreases-loop-t
decreases-loop-t l = length l.t
