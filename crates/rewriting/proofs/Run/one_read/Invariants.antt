-- `rewriting::Run::one_read` meets its contract. The loop's invariant: the reading is that of the start.
use mathlib.Core.Path.{◌≡◌}
use Rattle.rewriting.proofs.Run.one_read.Given as goal

abbrev pub invariant-loop-x : goal.invariant-loop-x
invariant-loop-x l = l.self.reading ≡ l.fn.self.reading
