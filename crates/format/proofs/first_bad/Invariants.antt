-- `format::first_bad` meets its contract. The loop's invariant: an even number of bytes is left, and the search over them gives what the search over all does.
use mathlib.Core.Path.{◌≡◌}
use Prim.Native.Nat.{◌+◌, ◌-◌, ◌%◌}
use Rattle.format.specs.Layout.{part}
use Rattle.format.specs.Utf8.{bad_from, first_bad}
use Rattle.format.specs.Meaning.{utf_m}
use Rattle.format.proofs.first_bad.Given as goal

abbrev pub invariant-loop-i : goal.invariant-loop-i
invariant-loop-i l = ((l.end - l.i) % 2 ≡ 0) × (bad_from (utf_m l.u) l.from l.i (part l.s l.i (l.end - l.i)) ≡ l.at + first_bad (part l.s l.at l.w))

abbrev pub decreases-loop-i : goal.decreases-loop-i
decreases-loop-i l = l.end - l.i
