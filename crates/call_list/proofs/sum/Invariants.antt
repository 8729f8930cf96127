-- `call_list::sum` meets its contract.
use Prim.Native.Nat.{◌%◌}
use mathlib.Core.Path.{◌≡◌}
use lib.ListN.{take}
use Rattle.call_list.specs.Calls.{weight_of}
use Rattle.call_list.proofs.Laws.{once_of}
use Rattle.call_list.proofs.sum.Given as goal

abbrev pub invariant-loop-x : goal.invariant-loop-x
invariant-loop-x l = (l.once ≡ once_of (take l.x-index l.b) % 4294967296) × (l.all ≡ weight_of (take l.x-index l.b) % 4294967296)
