-- `text::up_to_8` meets its contract.
use native.Mathlib.Omega.{arith}
use Rattle.text.proofs.Laws.{last-4, more-4, wrote-long, wrote-both}
use Rattle.text.proofs.up_to_8.Goals as goal

pub up_to_4-k-requires : goal.up_to_4-k-requires
up_to_4-k-requires c = (omega arith, omega (arith, more-4 c.args.n c.if-n-lt10000.false))

pub four-requires : goal.four-requires
four-requires c = (omega arith, omega (arith, more-4 c.args.n c.if-n-lt10000.false, c.up_to_4-k.ensures.next, wrote-long c.up_to_4-k.ensures))

pub returns : goal.returns
returns c = wrote-both (last-4 c.args.n c.if-n-lt10000.false) c.up_to_4-k.ensures c.four.ensures
