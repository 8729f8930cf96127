-- `flat::told` meets its contract.
use mathlib.Core.Path.{ap, ◌∙◌}
use Rattle.flat.specs.Flatten.{step_flat}
use Rattle.flat.proofs.told.Goals as goal

pub returns : goal.returns
returns c = c.flatten.ensures ∙ ap step_flat c.told_of.ensures
