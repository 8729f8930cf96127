use mathlib.Core.Path.{refl, ◌∙◌}
use native.Mathlib.Omega.{arith}
use Rattle.text.proofs.Laws.{wrote_none, wrote-append, wrote_as}
use Rattle.tally_lines.specs.Lines.{lines_of}
use Rattle.tally_lines.proofs.Text.{lines_more}
use Rattle.tally_lines.proofs.lines.Goals as goal

pub loop-k-init : goal.loop-k-init
unfolding lines_of
loop-k-init c = (refl, wrote_none c.args.out.now 0 (omega arith), omega arith)

pub loop-k-preserved : goal.loop-k-preserved
loop-k-preserved c = (
  c.line-at.auto.out ∙ c.loop-k.invariant.0,
  wrote_as (lines_more c.args.count.now c.loop-k.k) (wrote-append c.loop-k.invariant.1 c.line-at.ensures.0),
  omega (arith, c.line-at.ensures.1),
)
