-- A text and two numbers, one behind the other.
use Rattle.std.proofs.Common.{rules, arith}
use Rattle.text.proofs.Laws.{behind-long, wrote-append, wrote-long}
use Rattle.lines.specs.Lines.{refused_of}
use Rattle.lines.proofs.refused.Goals as goal

pub returns : goal.returns
unfolding refused_of
returns c =
    let a = c.bytes-a.ensures.fits (omega arith) in
    let b = c.number-b.ensures.fits (omega (arith, a.next, wrote-long a)) in
    let d = c.number.ensures.fits (omega (arith, a.next, wrote-long a, b.next, wrote-long b, behind-long c.args.r.number 32 (search rules))) in
    wrote-append a (wrote-append b d)
