-- `tally_lines::stopped_line` meets its contract.
use native.Mathlib.Omega.{arith}
use Rattle.text.proofs.Laws.{behind-long, wrote-append}
use Rattle.tally_lines.specs.Lines.{stopped_of}
use borrow.Author.Rules.{rules}
use Rattle.tally_lines.proofs.stopped_line.Goals as goal

pub returns : goal.returns
unfolding stopped_of
returns c =
    let text = c.bytes-a.ensures.fits (omega arith) in
    let number = c.number-b.ensures.fits (omega (arith, text.next)) in
    let short = behind-long c.args.stop 32 (search rules) in
    let place = c.number.ensures.fits (omega (arith, text.next, number.next, short)) in
    wrote-append text (wrote-append number place)
