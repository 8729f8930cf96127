-- `templates::width` meets its contract.
use native.Mathlib.Omega.{arith}
use Rattle.std.proofs.lemmas.Grind.{common_steps}
use Rattle.templates.specs.Templates.{width_of}
use Rattle.templates.proofs.width.Goals as goal

pub returns-in-56 : goal.returns-in-56
unfolding width_of
returns-in-56 c = (rw c.in-56.is, omega arith)

pub returns-in-52 : goal.returns-in-52
unfolding width_of
returns-in-52 c = (rw c.in-52.is, omega arith)

pub returns-in_default : goal.returns-in_default
unfolding width_of
returns-in_default c = grind (arith, common_steps)
