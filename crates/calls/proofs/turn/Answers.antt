-- `calls::turn` meets its contract.
use mathlib.Core.Path.{ap, sym}
use native.Mathlib.Omega.{arith}
use lib.Seq.{length-take-le}
use Rattle.call_list.specs.declared.Asked.{Asked}
use Rattle.calls.proofs.turn.Goals as goal

pub slice_bounds-a-end : goal.slice_bounds-a-end
slice_bounds-a-end g c = omega (arith, ap (λ (r : Asked). r.na) c.call_at-c.ensures.value)

pub slice_bounds-one_call-end : goal.slice_bounds-one_call-end
slice_bounds-one_call-end g c = sym (length-take-le _ _ (omega (arith, ap (λ (r : Asked). r.na) c.call_at-c.ensures.value)))
