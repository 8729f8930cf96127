use native.Mathlib.Omega.{arith}
use mathlib.Core.Path.{refl}
use Rattle.call_list.specs.Calls.{made_of}
use Rattle.call_list.proofs.Laws.{made_more}
use Rattle.call_list.proofs.make.Goals as goal

pub loop-i-init : goal.loop-i-init
unfolding made_of
loop-i-init c = refl

pub loop-i-preserved : goal.loop-i-preserved
loop-i-preserved c = rw c.byte.ensures (made_more c.args.fill c.args.place c.args.explicit.now c.args.room.now c.loop-i.room c.loop-i.i (omega arith) c.loop-i.invariant)
