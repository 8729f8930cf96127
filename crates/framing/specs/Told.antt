-- What the functions of the program owe, up to what is read and written.
-- Assumes nothing.
use Rattle.std.specs.Prelude.{ℕ, ◌+◌, ◌≡◌, Bool, true, false, cond, List, [], ◌∷◌, ◌⊎◌, ltb, length, drop, Result, Ok, Err}
use Rattle.format.specs.declared.Reading.{Reading}
use Rattle.standard.specs.declared.Brought.{Brought}
use Rattle.standard.specs.Reads.{has_failed}
use Rattle.reader.specs.Window.{window_of}
use Rattle.walk.specs.declared.Walk.{Walk}
use Rattle.walk.specs.declared.Answer.TheVariants.{Refused}
use Rattle.walk.specs.Walk.{fresh_of, own_step}
use Rattle.demand.specs.Promises.{Reached}
use Rattle.lines.specs.declared.Blocked.{Blocked}
use Rattle.lines.specs.Lines.{closing_of}
use Rattle.lines.specs.Blocks.{Called}
use Rattle.output.specs.Calls.{Since, Over}
use Rattle.words.specs.declared.Ending.{Ending}
use Rattle.words.specs.declared.Ending.TheVariants.{Clean, Found, Failed}
use Rattle.framing.specs.declared.sent.Sent.{Sent}
use Rattle.framing.specs.declared.Run.{Run}
use Rattle.framing.specs.Texts.{AllWalked}

-- A block b that was not walked to its end from w on by a reading, and what was sent: calls led to a state and a place in it, and of the call from there,
-- which is the last, the write was not taken, or the step behind it refuses 33.
pub record Short (quiet : Bool) (rd : Reading) (b : List ℕ) (w : Walk) (s : Sent) : Type 0 where
  pub told : s.quiet ≡ quiet
  pub reached : Reached (window_of rd) rd s.state
  pub place : ℕ
  pub state : Walk
  pub since : Since quiet (window_of rd) w b 0 state place
  pub out : List ℕ
  pub after : List ℕ
  pub answer : Blocked
  pub called : Called quiet (window_of rd) state b place out 0 after answer
  pub sent : s.state ≡ answer.state
  pub why : (s.written.taken ≡ false) ⊎ ((own_step s.state (drop answer.from b)).answer ≡ Refused 33)

-- a block b that was walked to its end: calls over it and the writes of their texts lie between, and all were taken
pub record Walked (quiet : Bool) (rd : Reading) (b : List ℕ) (w : Walk) (s : Sent) : Type 0 where
  pub told : s.quiet ≡ quiet
  pub reached : Reached (window_of rd) rd s.state
  pub good : s.written.taken ≡ true
  pub calls : Over quiet (window_of rd) (b ∷ []) w s.state
  pub bytes : s.state.offset + s.state.seen ≡ w.offset + w.seen + length b

-- the one or the other
abbrev pub Behind : Bool → Reading → List ℕ → Walk → Result Sent Sent → Type 0
Behind quiet rd b w (Ok s) = Walked quiet rd b w s
Behind quiet rd b w (Err s) = Short quiet rd b w s

-- nothing was sent, and the walk is fresh
pub record Fresh (s : Sent) : Type 0 where
  pub state : s.state ≡ fresh_of s.state.reading
  pub good : s.written.taken ≡ true

-- At the end of all reads: calls by one reading over the pieces that they brought, from the fresh state on. Where all is whole they lead to the state that was sent, and
-- all that the reads brought is walked; where it is not, to a state from which a further piece was not walked to its end.
pub record Ended (quiet : Bool) (rd : Reading) (t : Run) : Type 0 where
  pub told : t.sent.quiet ≡ quiet
  pub reached : Reached (window_of rd) rd t.sent.state
  pub pieces : List (List ℕ)
  pub last : Walk
  pub over : Over quiet (window_of rd) pieces (fresh_of rd) last
  pub all : t.whole ≡ true → (t.sent.state ≡ last) × (t.sent.written.taken ≡ true) × AllWalked t.sent.state t.brought
  pub piece : List ℕ
  pub short : t.whole ≡ false → Short quiet rd piece last t.sent

-- How the program ends: all lines quiet or none, all frames read by the one reading, and the closing lines of the state that was sent are handed to the last
-- write; or a write was not taken.
pub data Finished (quiet : Bool) (rd : Reading) (s : Sent) : Type 0 where
  whole : s.quiet ≡ quiet → s.state.reading ≡ rd → s.closed ≡ true → s.written.bytes ≡ length (closing_of s.state.offset s.state.seen s.state.frames s.state.accepted)
      → Finished quiet rd s
  failed : s.written.taken ≡ false → Finished quiet rd s

-- How the run went, by what was sent, by the last read, and by whether all was walked: failed where a write or the read failed; found where the walk could no
-- further, bytes are left over, or fewer frames were accepted than there are.
abbrev pub ending_of : Sent → Brought → Bool → Ending
ending_of s b all =
    cond s.written.taken
    (cond (has_failed b) Failed
    (cond all (cond (ltb 0 s.state.seen) Found (cond (ltb s.state.accepted s.state.frames) Found Clean)) Found))
    Failed
