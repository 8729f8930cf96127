-- Calls of `play` over one slice by one reading, one after another: each from the state, the buffer and the position that the call before left, and each
-- with a width of its own, that of its number. The first answer that is no message ends them.
-- Assumes nothing.
use Rattle.std.specs.Prelude.{ℕ, ◌≡◌, List, [], ◌∷◌, ◌++◌, length}
use Rattle.format.specs.declared.Reading.{Reading}
use Rattle.records.specs.declared.Message.{Message as Record}
use Rattle.stream.specs.declared.Stream.{Stream}
use Rattle.stream.specs.declared.Answer.{Answer}
use Rattle.stream.specs.declared.Answer.TheVariants.{Message}
use Rattle.stream.specs.State.{fresh_state}
use Rattle.play.specs.Play.{Out, play_of}

module _ (rd : Reading) (width : ℕ → ℕ) (src : List ℕ) where
  -- the next call, where so many messages were answered before
  abbrev pub call : Stream → List ℕ → ℕ → List Record → Out
  call s b at ms = play_of rd src (width (length ms)) s b at

  -- calls so far: the state, the buffer, the position, and the messages answered, in order
  pub data Plays : Stream → List ℕ → ℕ → List Record → Type 0 where
    fresh : {b : List ℕ} → length b ≡ 8192 → Plays fresh_state b 0 []
    message : {s : Stream} {b : List ℕ} {at : ℕ} {ms : List Record} → Plays s b at ms → (m : Record) → (call s b at ms).played.answer ≡ Message m
        → Plays (call s b at ms).played.state (call s b at ms).buffer (call s b at ms).played.at (ms ++ (m ∷ []))

  -- calls that have ended: the messages answered, and the answer that is none
  pub data PlayedOut : List Record → Answer → Type 0 where
    ended : {s : Stream} {b : List ℕ} {at : ℕ} {ms : List Record} → Plays s b at ms → ((m : Record) → (call s b at ms).played.answer ≡ Message m → ⊥)
        → PlayedOut ms (call s b at ms).played.answer
