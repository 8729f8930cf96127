-- `writer::is_mpid` meets its contract.
use mathlib.Core.Path.{sym, ap, ◌∙◌}
use Rattle.writer.specs.Writing.{mpid_fine}
use Rattle.writer.proofs.is_mpid.Goals as goal

pub returns-in-Some : goal.returns-in-Some
returns-in-Some c = c.is_text.ensures ∙ sym (ap mpid_fine c.in-Some.is)
