-- `framing::closing::tail` meets its contract.
use native.Mathlib.Omega.{arith}
use Rattle.text.proofs.Laws.{behind-long, wrote-append}
use Rattle.lines.specs.Lines.{tail_of}
use borrow.Author.Rules.{rules}
use Rattle.framing.proofs.closing.tail.Goals as goal

pub returns : goal.returns
unfolding tail_of
returns c =
    let word = c.bytes-a.ensures.fits (omega arith) in
    let offset = c.number-b.ensures.fits (omega (arith, word.next)) in
    let short = behind-long c.args.offset 32 (search rules) in
    let left = c.number.ensures.fits (omega (arith, word.next, offset.next, short)) in
    wrote-append word (wrote-append offset left)
