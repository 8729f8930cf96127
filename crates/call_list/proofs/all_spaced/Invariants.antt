-- `call_list::all_spaced` meets its contract.
use Rattle.call_list.proofs.Laws.{Spacing}
use Rattle.call_list.proofs.all_spaced.Given as goal

abbrev pub invariant-loop-n : goal.invariant-loop-n
invariant-loop-n l = Spacing l.v l.fn.out l.at0 l.out l.at l.n-index
