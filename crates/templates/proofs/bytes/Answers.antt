use Prim.Native.Nat.{◌+◌, ◌-◌}
use mathlib.Core.Path.{◌≡◌}
use native.Mathlib.Omega.{arith}
use Rattle.templates.proofs.Laws.{spelling-more, spelling-end}
use Rattle.templates.proofs.bytes.Goals as goal

pub loop-i-preserved : goal.loop-i-preserved
loop-i-preserved c =
    let n = c.args.n in
    let i = c.loop-i.i in
    let e : n - (i + 1) ≡ n - i - 1 = omega arith in
    rw e (spelling-more c.args.v n c.args.out.now c.args.at c.loop-i.out c.loop-i.k (n - i) c.loop-i.invariant (omega arith) _ _ c.shown-k.ensures.upper_bound c.shown-k.ensures.wrote)

pub returns-clause-wrote : goal.returns-clause-wrote
returns-clause-wrote c =
    let z : c.args.n - c.loop-i.i ≡ 0 = omega arith in
    spelling-end c.args.v c.args.n c.args.out.now c.args.at c.loop-i.out c.loop-i.k (rw z at c.loop-i.invariant) (omega arith)
