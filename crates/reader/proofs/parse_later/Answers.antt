-- `reader::parse_later` meets its contract.
use mathlib.Core.Path.{ap, ◌∙◌}
use Rattle.format.specs.Meaning.{stop_m}
use Rattle.format.specs.Rows.{body_of, body_later}
use Rattle.reader.proofs.Tags.{unknown}
use Rattle.reader.proofs.parse_later.Goals as goal

pub returns-in-Old : goal.returns-in-Old
unfolding body_later
returns-in-Old c = rw c.in-Old.is (ap stop_m c.refused.ensures)

pub returns-in-104 : goal.returns-in-104
unfolding body_of body_later
returns-in-104 c = rw (c.in-Later.is, c.in-104.is) c.later_body.ensures

pub returns-in-79 : goal.returns-in-79
unfolding body_of body_later
returns-in-79 c = rw (c.in-Later.is, c.in-79.is) c.later_body-in-79.ensures

pub returns-in_default : goal.returns-in_default
returns-in_default c = rw c.in-Later.is (ap stop_m c.refused-in_default.ensures ∙ unknown _ _ c.in_default.in_default-own.rest)
