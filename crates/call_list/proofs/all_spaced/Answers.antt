use native.Mathlib.Omega.{arith}
use mathlib.Core.Path.{◌≡◌}
use mathlib.Core.List.{[]}
use lib.ListN.{drop, drop_of_length-le}
use Rattle.text.proofs.Laws.{wrote_none}
use Rattle.call_list.specs.Calls.{spaced_of}
use Rattle.call_list.proofs.Laws.{spacing-more}
use Rattle.call_list.proofs.all_spaced.Goals as goal

pub loop-n-preserved : goal.loop-n-preserved
loop-n-preserved c = spacing-more c.args.v.now c.args.out.now c.args.at0 c.loop-n.out c.loop-n.at c.loop-n.n-index c.loop-n.invariant (omega arith) _ _ c.spaced-at.ensures.upper_bound c.spaced-at.ensures.wrote

pub returns : goal.returns
unfolding spaced_of
returns c =
    let e : drop c.loop-n.n-index c.args.v.now ≡ [] = drop_of_length-le c.args.v.now {i = c.loop-n.n-index} (omega arith) in
    c.loop-n.invariant.then c.loop-n.out c.loop-n.at (rw e (wrote_none c.loop-n.out c.loop-n.at (omega arith)))
