-- `text::eight` meets its contract.
use Prim.Native.Nat.{◌/◌}
use native.Mathlib.Omega.{arith}
use Rattle.text.specs.Decimal.{eight_of}
use Rattle.text.proofs.Laws.{four-long, wrote-long, wrote-append}
use Rattle.text.proofs.eight.Goals as goal

pub four-requires : goal.four-requires
four-requires c = (omega arith, omega (arith, c.four-k.ensures.next, four-long (c.args.n / 10000), wrote-long c.four-k.ensures))

pub returns : goal.returns
unfolding eight_of
returns c = wrote-append c.four-k.ensures c.four.ensures
