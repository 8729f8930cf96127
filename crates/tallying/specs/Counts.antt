-- The counters: one for each tag value, raised by a message of that tag; and what taking the window's messages comes to.
-- Assumes nothing.
use Rattle.std.specs.Prelude.{ℕ, ◌+◌, ◌≡◌, false, cond, List, [], ◌∷◌, eqb, length, get_or, set}
use Rattle.format.specs.declared.Reading.{Reading}
use Rattle.records.specs.declared.Message.{Message as Record}
use Rattle.plain.specs.Plain.{Table}
use Rattle.stream.specs.declared.Stream.{Stream}
use Rattle.stream.specs.declared.Step.{Step}
use Rattle.stream.specs.declared.Answer.TheVariants.{Message}
use Rattle.stream.specs.Next.{next_of}

unfoldable pub sum : List ℕ → ℕ
sum [] = 0
sum (x ∷ xs) = x + sum xs

-- 256 counters that have counted n messages
pub record Counters (c : List ℕ) (n : ℕ) : Type 0 where
  pub all : length c ≡ 256
  pub total : sum c ≡ n

-- the counters behind a message
abbrev pub raised : List ℕ → Record → List ℕ
raised c m = set c m.tag (get_or c m.tag 0 + 1)

-- messages taken one behind the other, from state s and counters c on, and counted
pub data Taken (rd : Reading) (b : List ℕ) (s : Stream) (c : List ℕ) : Stream → List ℕ → Type 0 where
  none : Taken rd b s c s c
  more : {t : Stream} {d : List ℕ} → Taken rd b s c t d → (m : Record) → (next_of rd t b).answer ≡ Message m → Taken rd b s c (next_of rd t b).state (raised d m)

-- some of the window's messages: r is the state behind them, and the counters have counted them
pub record Counted (rd : Reading) (b : List ℕ) (s : Stream) (c : List ℕ) (r : Stream) (d : List ℕ) : Type 0 where
  pub taken : Taken rd b s c r d
  pub counted : Counters d r.messages

-- the same under every reading whose table is `rows`
pub record Skimmed (rows b : List ℕ) (s : Stream) (c : List ℕ) (r : Stream) (d : List ℕ) : Type 0 where
  pub taken : (rd : Reading) → Table rd.strict rows → Taken rd b s c r d
  pub counted : Counters d r.messages

-- a state behind messages: where its window begins then, and how many were taken by then. The first of them clears the mark
abbrev pub on_to : Stream → ℕ → ℕ → Stream
on_to s start messages = record {
  start = start;
  end = s.end;
  bytes_read = s.bytes_read;
  read_calls = s.read_calls;
  messages = messages;
  error = cond (eqb messages s.messages) s.error false;
}

-- the same under every reading, from every state on that has this window and this count
pub record Tightly (b : List ℕ) (start end messages : ℕ) (c : List ℕ) (start' messages' : ℕ) (d : List ℕ) : Type 0 where
  pub taken : (s : Stream) → s.start ≡ start → s.end ≡ end → s.messages ≡ messages → (rd : Reading) → Taken rd b s c (on_to s start' messages') d
  pub counted : Counters d messages'

-- all that the window has: r is the first answer that is not a message, and the counters have counted its messages
pub record Drained (rd : Reading) (b : List ℕ) (s : Stream) (c : List ℕ) (r : Step) (d : List ℕ) : Type 0 where
  pub last : Stream
  pub taken : Taken rd b s c last d
  pub step : r ≡ next_of rd last b
  pub stops : (m : Record) → r.answer ≡ Message m → ⊥
  pub counted : Counters d r.state.messages
