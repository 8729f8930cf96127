-- `tally_lines::tally` meets its contract.
use native.Mathlib.Omega.{arith}
use Rattle.text.proofs.Laws.{wrote_none, wrote-append, wrote_as, puts-fits, puts-full}
use Rattle.tally_lines.specs.Lines.{tally_of}
use Rattle.tally_lines.proofs.Text.{printed-all, printed-none}
use Rattle.tally_lines.proofs.tally.Goals as goal

pub returns-then-out-lt5968 : goal.returns-then-out-lt5968
returns-then-out-lt5968 c = puts-full (omega arith)

pub returns-then-count-ne256 : goal.returns-then-count-ne256
returns-then-count-ne256 c =
    let a = c.args in
    let none = printed-none a.count.now a.messages a.answer c.if-count-ne256.true in
    puts-fits (omega arith) (wrote_as none (wrote_none a.out.now 0 (omega arith)))

pub returns : goal.returns
unfolding tally_of
returns c =
    let a = c.args in
    let all = printed-all a.count.now a.messages a.answer
    c.if-count-ne256.false in
    puts-fits (omega arith)
    (wrote_as all (wrote-append c.lines-a.ensures.0 (wrote-append c.messages_line-b.ensures.0 (rw (← c.number_of.ensures, ← c.place_of.ensures) c.stopped_line.ensures))))
