-- `text::four` meets its contract.
use native.Mathlib.Omega.{arith}
use Rattle.text.specs.Decimal.{four_of}
use Rattle.text.proofs.Laws.{wrote-long, wrote-append}
use Rattle.text.proofs.four.Goals as goal

pub two-requires : goal.two-requires
two-requires c = (omega arith, omega (arith, c.two-k.ensures.next, wrote-long c.two-k.ensures))

pub returns : goal.returns
unfolding four_of
returns c = wrote-append c.two-k.ensures c.two.ensures
