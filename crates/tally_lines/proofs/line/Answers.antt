-- `tally_lines::line` meets its contract.
use native.Mathlib.Omega.{arith}
use Rattle.text.proofs.Laws.{behind-long, wrote_none, wrote-append, wrote_as}
use Rattle.tally_lines.proofs.Text.{line-some, line-none}
use borrow.Author.Rules.{rules}
use Rattle.tally_lines.proofs.line.Goals as goal

pub returns-then-n-gt0 : goal.returns-then-n-gt0
returns-then-n-gt0 c =
    let a = c.args in
    let tag = c.byte-a.ensures.fits (omega arith) in
    let gap = c.byte-b.ensures.fits (omega (arith, tag.next)) in
    let count = c.number.ensures.fits (omega (arith, tag.next, gap.next)) in (
      wrote_as
          (line-some a.tag a.n c.if-n-gt0.true)
          (wrote-append tag (wrote-append gap count)),
      omega (arith, tag.next, gap.next, count.next, behind-long a.n 10 (search rules)),
    )

pub returns : goal.returns
returns c = (
  wrote_as (line-none c.args.tag c.args.n c.if-n-gt0.false)
      (wrote_none c.args.out.now c.args.at (omega arith)),
  omega arith,
)
