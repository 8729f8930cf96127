-- `text::up_to_2` meets its contract.
use mathlib.Core.Path.{ap}
use native.Mathlib.Omega.{arith}
use lib.ListN.{length}
use Rattle.text.proofs.Laws.{decimal-one, decimal-two, wrote_as}
use Rattle.text.proofs.up_to_2.Goals as goal

pub one-requires : goal.one-requires
one-requires c = (omega arith, omega (arith, ap length (decimal-one c.args.n c.if-n-lt10.true)))

pub returns-then-n-lt10 : goal.returns-then-n-lt10
returns-then-n-lt10 c = wrote_as (decimal-one c.args.n c.if-n-lt10.true) c.one.ensures

pub two-requires : goal.two-requires
two-requires c = (omega arith, omega (arith, ap length (decimal-two c.args.n c.if-n-lt10.false c.requires.0)))

pub returns : goal.returns
returns c = wrote_as (decimal-two c.args.n c.if-n-lt10.false c.requires.0) c.two.ensures
