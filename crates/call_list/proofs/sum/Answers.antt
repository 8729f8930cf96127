use native.Mathlib.Omega.{arith}
use mathlib.Core.Path.{refl}
use Rattle.call_list.specs.Calls.{weight_of}
use Rattle.call_list.proofs.Laws.{once_of, once_more, weight-more}
use Rattle.call_list.proofs.sum.Goals as goal

pub loop-x-init : goal.loop-x-init
unfolding once_of weight_of
loop-x-init c = (refl, refl)

pub loop-x-preserved : goal.loop-x-preserved
loop-x-preserved c =
    let i = c.loop-x.x-index in
    omega (arith, c.from.ensures, once_more c.args.b.now i (omega arith), weight-more c.args.b.now i (omega arith))
