-- A state, made of its parts.
-- Assumes nothing.
use Rattle.std.specs.Prelude.{ℕ, Bool}
use Rattle.stream.specs.declared.Stream.{Stream}

abbrev pub state_of : ℕ → ℕ → ℕ → ℕ → ℕ → Bool → Stream
state_of start end bytes calls messages error = record { start = start; end = end; bytes_read = bytes; read_calls = calls; messages = messages; error = error }
