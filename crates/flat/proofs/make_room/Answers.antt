-- `flat::make_room` meets its contract.
use mathlib.Core.Path.{ap, ◌∙◌}
use Rattle.flat.specs.Flatten.{step_flat}
use Rattle.flat.proofs.make_room.Goals as goal

pub returns : goal.returns
returns c = record { value = c.flatten.ensures ∙ ap step_flat c.make_room_of.ensures.value; buf_after = c.make_room_of.ensures.buf_after }
