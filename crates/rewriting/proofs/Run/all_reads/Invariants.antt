-- `rewriting::Run::all_reads` meets its contract. The loop's invariant: the reading is that of the start.
use mathlib.Core.Path.{◌≡◌}
use Rattle.rewriting.proofs.Run.all_reads.Given as goal

abbrev pub invariant-loop : goal.invariant-loop
invariant-loop l = l.self.reading ≡ l.fn.self.reading
