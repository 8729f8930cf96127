-- `tally_lines::messages_line` meets its contract.
use native.Mathlib.Omega.{arith}
use Rattle.text.proofs.Laws.{behind-long, wrote-append}
use Rattle.tally_lines.specs.Lines.{messages_of}
use borrow.Author.Rules.{rules}
use Rattle.tally_lines.proofs.messages_line.Goals as goal

pub returns : goal.returns
unfolding messages_of
returns c =
    let text = c.bytes-a.ensures.fits (omega arith) in
    let count = c.number.ensures.fits (omega (arith, text.next)) in (
      wrote-append text count,
      omega (arith, text.next, count.next, behind-long c.args.messages 10 (search rules)),
    )
