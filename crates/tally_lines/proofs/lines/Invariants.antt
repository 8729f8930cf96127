-- `tally_lines::lines` meets its contract. The invariant: the lines of the tag values below k are put.
use Prim.Native.Nat.{◌*◌, ◌≤◌}
use mathlib.Core.Path.{◌≡◌}
use lib.ListN.{length}
use Rattle.text.specs.Decimal.{Wrote}
use Rattle.tally_lines.specs.Lines.{lines_of}
use Rattle.tally_lines.proofs.lines.Given as goal

abbrev pub invariant-loop-k : goal.invariant-loop-k
invariant-loop-k l = (length l.out ≡ length l.initial.out) × Wrote (lines_of l.count l.k) l.initial.out 0 l.out l.at × (l.at ≤ 23 * l.k)
