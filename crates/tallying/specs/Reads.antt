-- What the reads of standard input have to do with the counters: the messages counted, and the answer that ends the run, are what the bytes brought by
-- all reads hold, by the reading that the program was asked for.
-- Assumes nothing.
use Rattle.std.specs.Prelude.{ℕ, ◌≤◌, min, ◌≡◌, true, false, List, [], ◌∷◌, length}
use Rattle.standard.specs.declared.Brought.{Brought}
use Rattle.standard.specs.Reads.{Silent, has_failed}
use Rattle.format.specs.declared.Reading.{Reading}
use Rattle.records.specs.declared.Message.{Message as Record}
use Rattle.stream.specs.declared.Answer.{Answer}
use Rattle.stream.specs.declared.Answer.TheVariants.{Refused}
use Rattle.heard.specs.Heard.{Heard, before, stop_at, heard_of}
use Rattle.heard.specs.Runs.{Fits}
use Rattle.tally_lines.specs.Lines.{tally_of}
use Rattle.feeding.specs.declared.Turn.{Turn}
use Rattle.tallying.specs.declared.printed.Tally.{Tally}
use Rattle.tallying.specs.Counts.{Counters, raised}

-- the counters behind messages
abbrev pub counts_of : List ℕ → List Record → List ℕ
counts_of c [] = c
counts_of c (m ∷ ms) = counts_of (raised c m) ms

-- How a run ends, by the bytes that all its reads brought, one behind the other, by its messages, by its answer and by what its last read brought.
pub data Ends (rd : Reading) (came : List ℕ) (ms : List Record) : Answer → Brought → Type 0 where
  -- with a refusal of a message
  judged : {n p : ℕ} {b : Brought} → 1 ≤ n → n ≤ 5 → heard_of rd came ≡ record { messages = ms; stop = Refused n p } → Ends rd came ms (Refused n p) b
  -- with the input's end, that is a read that brought nothing
  ended : {a : Answer} {b : Brought} → Silent b → has_failed b ≡ false → heard_of rd came ≡ record { messages = ms; stop = a }
      → Ends rd came ms a b
  -- with a failed read: behind the messages of what had come
  failed : {b : Brought} (w : List ℕ) → Silent b → has_failed b ≡ true → heard_of rd came ≡ record { messages = ms; stop = stop_at w }
      → Ends rd came ms (Refused 11 0) b
  -- with 33: the bytes, the messages or the read calls can no more be counted
  full : {b : Brought} (h : Heard) → (Fits came → ⊥) → heard_of rd came ≡ before ms h → Ends rd came ms (Refused 33 0) b

-- a run from counters c to its last turn r and counters d; as many bytes came as its reads brought
pub record Tallied (rd : Reading) (c : List ℕ) (r : Turn) (d : List ℕ) : Type 0 where
  pub came : List ℕ
  pub messages : List Record
  pub total : r.brought.total ≡ min (length came) 18446744073709551615
  pub ends : Ends rd came messages r.step.answer r.brought
  pub counts : d ≡ counts_of c messages
  pub counted : Counters d r.step.state.messages

-- what may be printed: the lines of the counters that a run left, from none on, with its messages and its answer
pub record Printed (rd : Reading) (count : List ℕ) (last : Turn) (text : List ℕ) : Type 0 where
  pub start : List ℕ
  pub none : Counters start 0
  pub tallied : Tallied rd start last count
  pub lines : text ≡ tally_of count last.step.state.messages last.step.answer

-- the program's end: such a text, of a run whose last turn tells of these reads, is handed to the write
pub record Finished (rd : Reading) (t : Tally) : Type 0 where
  pub last : Turn
  pub reads : t.brought ≡ last.brought
  pub count : List ℕ
  pub text : List ℕ
  pub printed : Printed rd count last text
  pub bytes : t.written.bytes ≡ length text
