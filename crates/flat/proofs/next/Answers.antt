-- `flat::next` meets its contract.
use mathlib.Core.Path.{ap, ◌∙◌}
use Rattle.flat.specs.Flatten.{step_flat}
use Rattle.flat.proofs.next.Goals as goal

pub returns : goal.returns
returns c = c.flatten.ensures ∙ ap step_flat c.next_of.ensures
