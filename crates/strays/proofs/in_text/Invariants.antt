-- `strays::in_text` meets its contract. The loop's invariant: the search over the bytes that are left gives what the search over all does.
use mathlib.Core.Path.{◌≡◌}
use Prim.Native.Nat.{◌-◌}
use Rattle.format.specs.Layout.{part}
use Rattle.strays.proofs.Sought.{sought}
use Rattle.strays.proofs.in_text.Given as goal

abbrev pub invariant-loop-i : goal.invariant-loop-i
invariant-loop-i l = sought (part l.s l.i (l.end - l.i)) l.i ≡ sought (part l.s l.at l.w) l.at

abbrev pub decreases-loop-i : goal.decreases-loop-i
decreases-loop-i l = l.end - l.i
