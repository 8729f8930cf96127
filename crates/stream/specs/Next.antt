-- Next: what the reader's answer to the window does to the state.
-- Assumes nothing.
use Rattle.std.specs.Prelude.{ℕ, ◌+◌, ◌-◌, false, cond, List, eqb, length, take, drop, Ok, Err}
use Rattle.format.specs.declared.Reading.{Reading}
use Rattle.format.specs.declared.Fault.TheVariants.{Short, Refused}
use Rattle.records.specs.declared.Message.{Message as Record}
use Rattle.reader.specs.Window.{window_of, Window}
use Rattle.stream.specs.declared.Stream.{Stream}
use Rattle.stream.specs.declared.Step.{Step}
use Rattle.stream.specs.declared.Answer.TheVariants.{Message, Wants}
use Rattle.stream.specs.State.{refuses, marks, sized, in_bounds}

-- the window from start to end
abbrev pub window_at : Stream → List ℕ → List ℕ
window_at s b = take (s.end - s.start) (drop s.start b)

-- a message: start moves on by what it consumed, the count rises, the mark clears
abbrev pub taken : Stream → Record → ℕ → Step
taken s m n = record {
  state = record {
    start = s.start + n;
    end = s.end;
    bytes_read = s.bytes_read;
    read_calls = s.read_calls;
    messages = s.messages + 1;
    error = false;
  };
  answer = Message m;
}

abbrev pub next_by : Stream → Window → Step
next_by s (Ok (m, n)) = cond (eqb s.messages 18446744073709551615) (refuses s 33) (taken s m n)
next_by s (Err Short) = record { state = s; answer = Wants }
next_by s (Err (Refused r)) = marks s r.number r.place

unfoldable pub next_of : Reading → Stream → List ℕ → Step
next_of rd s b = sized (length b) (refuses s) (in_bounds s (refuses s) (next_by s (window_of rd (window_at s b))))
