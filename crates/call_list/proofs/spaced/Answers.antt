-- `call_list::spaced` meets its contract.
use native.Mathlib.Omega.{arith}
use Rattle.text.proofs.Laws.{decimal-20, wrote-long, wrote-append}
use borrow.Author.Rules.{rules}
use Rattle.call_list.proofs.spaced.Goals as goal

pub returns : goal.returns
returns c =
    let w = c.byte-next.ensures.fits (omega arith) in
    let u = c.decimal.ensures.fits (omega (arith, w.next, wrote-long w)) in
    record { wrote = wrote-append w u; upper_bound = omega (arith, w.next, u.next, decimal-20 c.args.n (search rules)) }
