use mathlib.Core.Path.{sym}
use native.Mathlib.Omega.{arith}
use Rattle.plain.proofs.Accepts.{strictly-tested}
use Rattle.tallying.proofs.Counting.{counter-below}
use Rattle.tallying.proofs.Skimming.{window-bytes, tightly-none, tightens}
use Rattle.tallying.proofs.skim_strictly.Goals as goal

pub loop-start-init : goal.loop-start-init
loop-start-init c = tightly-none c.requires.counted

pub bounds-window-2 : goal.bounds-window-2
bounds-window-2 c = let t = strictly-tested _ _ _ (sym c.strictly-n.ensures) (omega (arith, c.if-n-eq0.false)) in omega (arith, t.long)

pub overflow_add-count : goal.overflow_add-count
overflow_add-count c = omega (arith, counter-below c.from.result c.loop-start.invariant.counted)

pub overflow_add-start : goal.overflow_add-start
overflow_add-start c = let t = strictly-tested _ _ _ (sym c.strictly-n.ensures) (omega (arith, c.if-n-eq0.false)) in omega (arith, t.low)

pub loop-start-preserved : goal.loop-start-preserved
loop-start-preserved c =
    rw c.from.ensures (tightens c.args.rows.now c.loop-start.invariant (record {
      whole = c.told-b;
      ordered = c.if-start-end.false;
      inside = c.if-end-gt8192.false;
      bytes = window-bytes c.args.b.now c.loop-start.start c.args.end c.fits-b;
      room = omega arith;
    }) c.requires.table c.strictly-n.ensures c.if-n-eq0.false)
