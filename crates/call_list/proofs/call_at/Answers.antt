-- `call_list::call_at` meets its contract.
use native.Mathlib.Omega.{arith}
use mathlib.Core.Path.{ap}
use lib.ListN.{length, length-drop}
use Rattle.call_list.proofs.call_at.Goals as goal

pub overflow_sub-result : goal.overflow_sub-result
overflow_sub-result c = omega (arith, simp length-drop at (ap length c.rest-t.ensures), simp length-drop at (ap length c.rest-from_a.ensures), simp length-drop at (ap length c.rest-from_b.ensures), simp length-drop at (ap length c.rest-from_next.ensures))
