-- `notices::parse_mwcb_decline_level` meets its contract.
use mathlib.Core.Path.{refl}
use Rattle.format.specs.Ascii.{'V'}
use Rattle.format.proofs.Runs.{body-stops, body_reads, end, ◌⨾◌, start, ◌▹◌}
use Rattle.records.specs.Values.{values}
use Rattle.notices.proofs.parse_mwcb_decline_level.Goals as goal

pub returns-in_err-level1 : goal.returns-in_err-level1
returns-in_err-level1 c = body-stops values 'V' _ _ _ refl start c.in_err-level1.ensures c.from_residual.ensures.1

pub returns-in_err-level2 : goal.returns-in_err-level2
returns-in_err-level2 c = body-stops values 'V' _ _ _ refl (start ▹ c.in_ok-level1.ensures) c.in_err-level2.ensures c.from_residual-in_err-level2.ensures.1

pub returns-in_err-level3 : goal.returns-in_err-level3
returns-in_err-level3 c = body-stops values 'V' _ _ _ refl (start ▹ c.in_ok-level1.ensures ▹ c.in_ok-level2.ensures) c.in_err-level3.ensures c.from_residual-in_err-level3.ensures.1

pub returns : goal.returns
returns c = body_reads 'V' _ refl (c.in_ok-level1.ensures ⨾ c.in_ok-level2.ensures ⨾ c.in_ok-level3.ensures ⨾ end)
