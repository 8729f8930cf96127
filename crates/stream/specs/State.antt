-- The state: fresh; refused and unchanged; and the error mark. The tests that several calls share, in their order.
-- Assumes nothing.
use Rattle.std.specs.Prelude.{ℕ, ◌-◌, true, false, cond, leb, eqb}
use Rattle.stream.specs.declared.Stream.{Stream}
use Rattle.stream.specs.declared.Step.{Step}
use Rattle.stream.specs.declared.Answer.TheVariants.{Nothing, Refused}

abbrev pub fresh_state : Stream
fresh_state = record { start = 0; end = 0; bytes_read = 0; read_calls = 0; messages = 0; error = false }

-- a refusal that leaves the state
abbrev pub refuses : Stream → ℕ → Step
refuses s n = record { state = s; answer = Refused n 0 }

-- the mark is set and the refusal told; nothing more if it was set
abbrev pub marks : Stream → ℕ → ℕ → Step
marks s n p =
    cond s.error (record { state = s; answer = Nothing })
    (record {
      state = record { start = s.start; end = s.end; bytes_read = s.bytes_read; read_calls = s.read_calls; messages = s.messages; error = true };
      answer = Refused n p;
    })

-- 31: the buffer has not 8,192 bytes
abbrev pub sized : {A : Type 0} → ℕ → (ℕ → A) → A → A
sized len bad go = cond (eqb len 8192) go (bad 31)

-- 30: start above end, or end above 8,192
abbrev pub in_bounds : {A : Type 0} → Stream → (ℕ → A) → A → A
in_bounds s bad go = cond (leb s.start s.end) (cond (leb s.end 8192) go (bad 30)) (bad 30)

-- the bytes of the messages that were answered: those read that do not stand in the window
abbrev pub consumed_of : Stream → ℕ
consumed_of s = cond (leb s.start s.end) (cond (leb (s.end - s.start) s.bytes_read) (s.bytes_read - (s.end - s.start)) 0) 0
