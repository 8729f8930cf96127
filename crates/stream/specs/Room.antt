-- Make room: the state, and the buffer. One list of tests serves both, so that a refusing call leaves the buffer as it was.
-- Assumes nothing.
use Rattle.std.specs.Prelude.{ℕ, ◌+◌, ◌-◌, cond, List, ◌++◌, leb, eqb, length, drop}
use Rattle.stream.specs.declared.Stream.{Stream}
use Rattle.stream.specs.declared.Step.{Step}
use Rattle.stream.specs.declared.Answer.TheVariants.{Ready}
use Rattle.stream.specs.State.{refuses, sized, in_bounds}

-- what stands from start on, moved to the front; the bytes behind the copy stay
abbrev pub moved : List ℕ → ℕ → List ℕ
moved b start = drop start b ++ drop (length b - start) b

-- 31, 30, 34, 33
abbrev pub room_tests : {A : Type 0} → Stream → ℕ → (ℕ → A) → A → A
room_tests s len bad go =
    sized len bad
    (in_bounds s bad (cond (leb 52 (s.end - s.start)) (bad 34) (cond (eqb s.read_calls 18446744073709551615) (bad 33) go)))

abbrev pub roomy : Stream → ℕ → ℕ → Step
roomy s start end = record {
  state = record { start = start; end = end; bytes_read = s.bytes_read; read_calls = s.read_calls + 1; messages = s.messages; error = s.error };
  answer = Ready;
}

unfoldable pub room_of : Stream → ℕ → Step
room_of s len = room_tests s len (refuses s) (cond (eqb s.end 8192) (roomy s 0 (s.end - s.start)) (roomy s s.start s.end))

unfoldable pub room_buffer : Stream → List ℕ → List ℕ
room_buffer s b = room_tests s (length b) (λ _. b) (cond (eqb s.end 8192) (moved b s.start) b)
