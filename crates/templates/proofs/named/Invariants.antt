-- `templates::named` meets its contract.
use mathlib.Core.Path.{◌≡◌}
use lib.ListN.{drop}
use Rattle.templates.specs.Templates.{name_of}
use Rattle.templates.proofs.named.Given as goal

abbrev pub invariant-loop-i : goal.invariant-loop-i
invariant-loop-i l = name_of l.v l.last (drop l.i l.t) ≡ name_of l.v 0 l.t
