use native.Mathlib.Omega.{arith}
use Rattle.reads.proofs.Laws.{case-end-inside}
use Rattle.showing.proofs.whole_cases.Goals as goal

pub loop-i-smaller : goal.loop-i-smaller
loop-i-smaller c = omega (arith, c.case_end-end.ensures, case-end-inside c.args.list.now c.loop-i.i c.loop-i.invariant)

pub loop-i-preserved : goal.loop-i-preserved
loop-i-preserved c = omega (arith, c.case_end-end.ensures, case-end-inside c.args.list.now c.loop-i.i c.loop-i.invariant)
