-- `text::up_to_16` meets its contract.
use native.Mathlib.Omega.{arith}
use Rattle.text.proofs.Laws.{last-8, more-8, wrote-long, wrote-both}
use Rattle.text.proofs.up_to_16.Goals as goal

pub up_to_8-k-requires : goal.up_to_8-k-requires
up_to_8-k-requires c = (omega arith, omega (arith, more-8 c.args.n c.requires.0))

pub eight-requires : goal.eight-requires
eight-requires c = (omega arith, omega (arith, more-8 c.args.n c.requires.0, c.up_to_8-k.ensures.next, wrote-long c.up_to_8-k.ensures))

pub returns : goal.returns
returns c = wrote-both (last-8 c.args.n c.requires.0) c.up_to_8-k.ensures c.eight.ensures
