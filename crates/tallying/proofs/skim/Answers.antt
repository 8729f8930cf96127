use mathlib.Core.Path.{sym, ◌∙◌}
use native.Mathlib.Omega.{arith}
use Rattle.plain.proofs.Accepts.{tested}
use Rattle.stream.proofs.Bounds.{orders}
use Rattle.tallying.specs.Counts.{none}
use Rattle.tallying.proofs.Counting.{counter-below}
use Rattle.tallying.proofs.Skimming.{window-bytes, skims}
use Rattle.tallying.proofs.skim.Goals as goal

pub loop-s-init : goal.loop-s-init
loop-s-init c = record { taken = λ _ _. none; counted = c.requires }

pub bounds-window-2 : goal.bounds-window-2
bounds-window-2 c = let t = tested _ _ _ (sym c.plain-n.ensures) (omega (arith, c.if-n-eq0.false)) in omega (arith, t.long)

pub overflow_add-count : goal.overflow_add-count
overflow_add-count c = let h = c.in-Some.ensures in omega (arith, counter-below c.from.result c.loop-s.invariant.counted, h)

pub overflow_add-s : goal.overflow_add-s
overflow_add-s c =
    let t = tested _ _ _ (sym c.plain-n.ensures) (omega (arith, c.if-n-eq0.false)) in
    let o = orders c.loop-s.s (sym c.in_bounds.ensures ∙ c.if-not-in_bounds.false) in
    omega (arith, t.low, o.0, o.1)

pub loop-s-smaller : goal.loop-s-smaller
loop-s-smaller c = let h = c.in-Some.ensures in omega (arith, h)

pub loop-s-preserved : goal.loop-s-preserved
loop-s-preserved c =
    let o = orders c.loop-s.s (sym c.in_bounds.ensures ∙ c.if-not-in_bounds.false) in
    let h = c.in-Some.ensures in
    rw (h.1, c.from.ensures) (skims c.loop-s.invariant (record {
      whole = c.told-b;
      ordered = o.0;
      inside = o.1;
      bytes = window-bytes c.args.b.now c.loop-s.s.start c.loop-s.s.end c.fits-b;
      room = omega (arith, h);
    }) c.plain-n.ensures c.if-n-eq0.false)
