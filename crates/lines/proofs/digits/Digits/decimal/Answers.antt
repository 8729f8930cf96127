-- `lines::digits::Digits::decimal` meets its contract.
use Prim.Native.Nat.{◌/◌, ◌%◌}
use mathlib.Core.Path.{◌≡◌}
use native.Mathlib.Omega.{arith}
use Rattle.text.proofs.Laws.{decimal-short, four-long, last-4, wrote-both, wrote-long}
use Rattle.lines.proofs.digits.Digits.decimal.Goals as goal

pub four-requires : goal.four-requires
four-requires c = (omega arith, omega (arith, c.front-k.ensures.next, wrote-long c.front-k.ensures, decimal-short 3 (c.args.n / 10000) (omega arith)))

pub returns-then-n-lt100000000 : goal.returns-then-n-lt100000000
returns-then-n-lt100000000 c = wrote-both (last-4 c.args.n (omega arith)) c.front-k.ensures c.four.ensures

pub four-l-requires : goal.four-l-requires
four-l-requires c = (omega arith, omega (arith, c.front-k-then-n-lt1000000000000.ensures.next, wrote-long c.front-k-then-n-lt1000000000000.ensures, decimal-short 3 (c.args.n / 100000000) (omega arith)))

pub four-requires-then-n-lt1000000000000 : goal.four-requires-then-n-lt1000000000000
four-requires-then-n-lt1000000000000 c = (omega arith, omega (arith, c.front-k-then-n-lt1000000000000.ensures.next, wrote-long c.front-k-then-n-lt1000000000000.ensures, decimal-short 3 (c.args.n / 100000000) (omega arith), c.four-l.ensures.next, wrote-long c.four-l.ensures, four-long (c.args.n / 10000 % 10000)))

pub returns-then-n-lt1000000000000 : goal.returns-then-n-lt1000000000000
returns-then-n-lt1000000000000 c =
    let e : c.args.n / 10000 / 10000 ≡ c.args.n / 100000000 = omega arith in
    wrote-both (last-4 c.args.n (omega arith)) (wrote-both (rw e at (last-4 (c.args.n / 10000) (omega arith))) c.front-k-then-n-lt1000000000000.ensures c.four-l.ensures) c.four-then-n-lt1000000000000.ensures

pub returns : goal.returns
returns c = c.decimal.ensures.fits (omega arith)
