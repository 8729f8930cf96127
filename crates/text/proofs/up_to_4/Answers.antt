-- `text::up_to_4` meets its contract.
use native.Mathlib.Omega.{arith}
use Rattle.text.proofs.Laws.{last-2, more-2, wrote-long, wrote-both}
use Rattle.text.proofs.up_to_4.Goals as goal

pub up_to_2-k-requires : goal.up_to_2-k-requires
up_to_2-k-requires c = (omega arith, omega (arith, more-2 c.args.n c.if-n-lt100.false))

pub two-requires : goal.two-requires
two-requires c = (omega arith, omega (arith, more-2 c.args.n c.if-n-lt100.false, c.up_to_2-k.ensures.next, wrote-long c.up_to_2-k.ensures))

pub returns : goal.returns
returns c = wrote-both (last-2 c.args.n c.if-n-lt100.false) c.up_to_2-k.ensures c.two.ensures
