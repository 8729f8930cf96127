-- `templates::filled` meets its contract.
use Rattle.templates.proofs.Laws.{Filling}
use Rattle.templates.proofs.filled.Given as goal

abbrev pub invariant-loop-x : goal.invariant-loop-x
invariant-loop-x l = Filling l.template l.v l.fn.out l.at0 l.out l.t l.at l.x-index
