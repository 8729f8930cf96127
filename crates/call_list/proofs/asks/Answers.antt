use native.Mathlib.Omega.{arith}
use mathlib.Core.Path.{◌≡◌, refl, sym, ◌∙◌}
use lib.ListN.{length-set}
use lib.Seq.{take_all}
use Rattle.call_list.specs.Calls.{asks_of}
use Rattle.call_list.proofs.Laws.{asks-more}
use Rattle.call_list.proofs.asks.Goals as goal

pub loop-k-init : goal.loop-k-init
unfolding asks_of
loop-k-init c = (refl, refl)

pub loop-k-preserved : goal.loop-k-preserved
loop-k-preserved c =
    let l = c.loop-k in (
      length-set l.x-items l.k c.number.result ∙ l.invariant.0,
      rw c.number.ensures (asks-more c.args.t.now l.x-items l.k (omega arith) l.invariant.1),
    )

pub returns : goal.returns
returns c =
    let z : c.loop-k.k ≡ 17 = omega arith in
    sym (take_all 17 c.loop-k.x-items (omega arith)) ∙ (rw z at c.loop-k.invariant.1)
