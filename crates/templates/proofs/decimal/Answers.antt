-- `templates::decimal` meets its contract.
use native.Mathlib.Omega.{arith}
use Rattle.text.proofs.Laws.{decimal-20}
use borrow.Author.Rules.{rules}
use Rattle.templates.proofs.decimal.Goals as goal

pub returns : goal.returns
returns c =
    let w = c.decimal.ensures.fits (omega arith) in
    record { wrote = w; upper_bound = omega (arith, w.next, decimal-20 c.args.n (search rules)) }
