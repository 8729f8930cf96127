-- `notices::parse_breach` meets its contract.
use mathlib.Core.Path.{refl}
use Rattle.format.specs.Ascii.{'W'}
use Rattle.format.proofs.Runs.{body-stops, body_reads, end, ◌⨾◌, start}
use Rattle.records.specs.Values.{values}
use Rattle.notices.proofs.parse_breach.Goals as goal

pub returns-in_err-level : goal.returns-in_err-level
returns-in_err-level c = body-stops values 'W' _ _ _ refl start c.in_err-level.ensures c.from_residual.ensures.1

pub returns : goal.returns
returns c = body_reads 'W' _ refl (c.in_ok-level.ensures ⨾ end)
