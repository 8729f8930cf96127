-- `tallying::put_tally` meets its contract.
use mathlib.Core.Path.{sym}
use native.Mathlib.Omega.{arith}
use Rattle.text.proofs.Laws.{wrote_as}
use Rattle.tally_lines.proofs.Text.{printed-all}
use Rattle.tallying.proofs.put_tally.Goals as goal

pub returns : goal.returns
returns c =
    let pre = c.requires in
    wrote_as (sym (printed-all _ _ _ pre.0.all)) (c.tally.ensures.fits (omega (arith, pre.1)))
