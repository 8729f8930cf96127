-- `notices::parse_system_event` meets its contract.
use mathlib.Core.Path.{refl}
use Rattle.format.specs.Ascii.{'S'}
use Rattle.format.proofs.Runs.{body-stops, body_reads, end, ◌⨾◌, start}
use Rattle.records.specs.Values.{values}
use Rattle.notices.proofs.parse_system_event.Goals as goal

pub returns-in_err-event : goal.returns-in_err-event
returns-in_err-event c = body-stops values 'S' _ _ _ refl start c.in_err-event.ensures c.from_residual.ensures.1

pub returns : goal.returns
returns c = body_reads 'S' _ refl (c.in_ok-event.ensures ⨾ end)
