-- `call_list::make` meets its contract.
use mathlib.Core.List.{◌++◌}
use mathlib.Core.Path.{◌≡◌}
use lib.ListN.{drop}
use Rattle.call_list.specs.Calls.{made_of}
use Rattle.call_list.proofs.make.Given as goal

abbrev pub invariant-loop-i : goal.invariant-loop-i
invariant-loop-i l = l.room ≡ made_of l.fill l.place l.explicit l.i ++ drop l.i l.fn.room
