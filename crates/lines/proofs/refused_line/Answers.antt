-- `lines::refused_line` meets its contract.
use native.Mathlib.Omega.{arith}
use Rattle.text.proofs.Laws.{decimal-20, wrote-append, wrote-long}
use borrow.Author.Rules.{rules}
use Rattle.lines.proofs.refused_line.Goals as goal

pub refused-requires : goal.refused-requires
refused-requires c =
    let p = c.decimal-a.ensures.fits (omega (arith, c.requires)) in
    omega (arith, c.requires, p.next, wrote-long p, decimal-20 c.args.n (search rules))

pub returns : goal.returns
returns c = wrote-append (c.decimal-a.ensures.fits (omega (arith, c.requires))) c.refused.ensures
