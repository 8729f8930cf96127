-- `templates::bytes` meets its contract.
use Prim.Native.Nat.{◌-◌}
use Rattle.templates.proofs.Laws.{Spelling}
use Rattle.templates.proofs.bytes.Given as goal

abbrev pub invariant-loop-i : goal.invariant-loop-i
invariant-loop-i l = Spelling l.v l.n l.fn.out l.at l.out l.k (l.n - l.i)
