-- What the writer's answer means, in the scope's numbers; and the answer that a meaning has.
-- Assumes nothing.
use Rattle.std.specs.Prelude.{ℕ, cond, eqb, Ok, Err}
use Rattle.writer.specs.declared.WriteError.{WriteError}
use Rattle.writer.specs.declared.WriteError.TheVariants.{Kind, Time, Text, Intraday, Room}
use Rattle.writer.specs.Writing.{Written, number_of}

-- so many bytes were written; refused, with the number
pub data Outcome : Type 0 where
  done : ℕ → Outcome
  refused : ℕ → Outcome

abbrev pub outcome_m : Written → Outcome
outcome_m (Ok n) = done n
outcome_m (Err e) = refused (number_of e)

-- the refusal that has a number, of the five
abbrev pub error_from : ℕ → WriteError
error_from n = cond (eqb n 40) Kind (cond (eqb n 41) Time (cond (eqb n 42) Text (cond (eqb n 43) Intraday Room)))

abbrev pub outcome_from : Outcome → Written
outcome_from (done n) = Ok n
outcome_from (refused n) = Err (error_from n)
