-- `lines::digits::Digits::front` meets its contract.
use Prim.Native.Nat.{◌/◌}
use native.Mathlib.Omega.{arith}
use Rattle.text.proofs.Laws.{decimal-two, decimal-four, decimal-short, last-2, wrote_as, wrote-both, wrote-long}
use Rattle.lines.proofs.digits.Digits.front.Goals as goal

pub returns-then-n-lt100 : goal.returns-then-n-lt100
returns-then-n-lt100 c = wrote_as (decimal-two c.args.n (omega arith) (omega arith)) c.two.ensures

pub two-requires-then-n-lt1000 : goal.two-requires-then-n-lt1000
two-requires-then-n-lt1000 c = (omega arith, omega (arith, c.digit-k.ensures.next, wrote-long c.digit-k.ensures, decimal-short 0 (c.args.n / 100) (omega arith)))

pub returns-then-n-lt1000 : goal.returns-then-n-lt1000
returns-then-n-lt1000 c = wrote-both (last-2 c.args.n (omega arith)) c.digit-k.ensures c.two-then-n-lt1000.ensures

pub returns : goal.returns
returns c = wrote_as (decimal-four c.args.n (omega arith) (omega arith)) c.four.ensures
