-- Told how many bytes came, or that the read failed.
-- Assumes nothing.
use Rattle.std.specs.Prelude.{ℕ, ◌+◌, ◌-◌, cond, ltb, leb, eqb}
use Rattle.stream.specs.declared.Stream.{Stream}
use Rattle.stream.specs.declared.Step.{Step}
use Rattle.stream.specs.declared.Answer.TheVariants.{Ready, Nothing}
use Rattle.stream.specs.State.{refuses, marks, in_bounds}

-- bytes came
abbrev pub fed : Stream → ℕ → Step
fed s n = record {
  state = record {
    start = s.start;
    end = s.end + n;
    bytes_read = s.bytes_read + n;
    read_calls = s.read_calls;
    messages = s.messages;
    error = s.error;
  };
  answer = Ready;
}

-- the input ended: nothing more behind a whole message, 10 inside one
abbrev pub ended : Stream → Step
ended s = cond (eqb s.start s.end) (record { state = s; answer = Nothing }) (marks s 10 0)

-- 30, 32, 33
unfoldable pub told_of : Stream → ℕ → Step
told_of s n =
    in_bounds s (refuses s)
    (cond (leb n (8192 - s.end))
    (cond (leb n (18446744073709551615 - s.bytes_read)) (cond (ltb 0 n) (fed s n) (ended s)) (refuses s 33))
    (refuses s 32))

unfoldable pub failed_of : Stream → Step
failed_of s = in_bounds s (refuses s) (marks s 11 0)
