-- `flat::told_failed` meets its contract.
use mathlib.Core.Path.{ap, ◌∙◌}
use Rattle.flat.specs.Flatten.{step_flat}
use Rattle.flat.proofs.told_failed.Goals as goal

pub returns : goal.returns
returns c = c.flatten.ensures ∙ ap step_flat c.told_failed_of.ensures
