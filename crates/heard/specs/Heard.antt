-- What an input holds for a stream that reads it by a reading: its messages in order, and the answer that ends them. It is said of the input alone: there
-- is no buffer in it, and no read.
-- Assumes nothing.
use Rattle.std.specs.Prelude.{ℕ, zero, suc, ◌≤◌, List, [], ◌∷◌, ◌++◌, length, drop, Ok, Err}
use Rattle.format.specs.declared.Reading.{Reading}
use Rattle.format.specs.declared.Fault.TheVariants.{Short, Refused as Bad}
use Rattle.records.specs.declared.Message.{Message as Record}
use Rattle.reader.specs.Window.{window_of, Window}
use Rattle.stream.specs.declared.Answer.{Answer}
use Rattle.stream.specs.declared.Answer.TheVariants.{Nothing, Refused}

pub record Heard : Type 0 where
  pub messages : List Record
  pub stop : Answer

-- messages, then the rest
abbrev pub before : List Record → Heard → Heard
before ms h = record { messages = ms ++ h.messages; stop = h.stop }

abbrev pub ends : Answer → Heard
ends a = record { messages = []; stop = a }

-- the input ended where s is left of it: nothing more behind a whole message, 10 inside one
abbrev pub stop_at : List ℕ → Answer
stop_at [] = Nothing
stop_at (x ∷ s) = Refused 10 0

-- by the reader's answer to all that is left: a message is taken and its bytes dropped, a refusal ends, and so does the input's end
abbrev pub heard_by : List ℕ → Window → (ℕ → Heard) → Heard
heard_by s (Ok (m, n)) go = before (m ∷ []) (go n)
heard_by s (Err Short) go = ends (stop_at s)
heard_by s (Err (Bad r)) go = ends (Refused r.number r.place)

-- at most k messages are looked for
unfoldable pub heard_at : Reading → ℕ → List ℕ → Heard
heard_at rd zero s = ends (stop_at s)
heard_at rd (suc k) s = heard_by s (window_of rd s) (λ n. heard_at rd k (drop n s))

-- a message has a byte at least, so there are no more messages than bytes
abbrev pub heard_of : Reading → List ℕ → Heard
heard_of rd s = heard_at rd (length s) s

-- the answers that can be the stop: nothing more; 1 to 5 at a place; 10
pub data Stop : Answer → Type 0 where
  nothing : Stop Nothing
  bad : {n p : ℕ} → 1 ≤ n → n ≤ 5 → Stop (Refused n p)
  inside : Stop (Refused 10 0)
