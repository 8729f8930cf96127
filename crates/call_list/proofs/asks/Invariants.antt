-- `call_list::asks` meets its contract.
use mathlib.Core.Path.{◌≡◌}
use lib.ListN.{length, take}
use Rattle.call_list.specs.Calls.{asks_of}
use Rattle.call_list.proofs.asks.Given as goal

abbrev pub invariant-loop-k : goal.invariant-loop-k
invariant-loop-k l = (length l.x-items ≡ 17) × (take l.k l.x-items ≡ asks_of l.t l.k)
