-- The frames that end in a block, as many as a lent buffer has room for. Whether quiet or not, a frame is told of only where the longest line has room.
-- Assumes nothing.
use Rattle.std.specs.Prelude.{ℕ, zero, suc, ◌+◌, ◌-◌, ◌^◌, ◌≤◌, ◌<◌, ◌≡◌, List, [], ◌∷◌, Bool, true, false, cond, length, drop, replicate, ltb}
use Rattle.std.proofs.lemmas.List.Edits.{sets}
use Rattle.format.specs.declared.Reading.{Reading}
use Rattle.reader.specs.Window.{Window}
use Rattle.walk.specs.declared.Walk.{Walk}
use Rattle.walk.specs.declared.Answer.{Answer}
use Rattle.walk.specs.declared.Answer.TheVariants.{Frame, WantsMore, Refused}
use Rattle.walk.specs.Walk.{put, more_of, step_of}
use Rattle.walk.specs.Frames.{Entry}
use Rattle.lines.specs.declared.Why.{Why}
use Rattle.lines.specs.declared.Why.TheVariants.{Used, Full, Stopped}
use Rattle.lines.specs.declared.Blocked.{Blocked}
use Rattle.lines.specs.Lines.{line_of, lines_of}

-- room that every line has
abbrev pub longest : ℕ
longest = 72

-- the text of an answer
abbrev pub line_for : Bool → Answer → List ℕ
line_for quiet (Frame at size what) = line_of quiet (record { at = at; size = size; what = what })
line_for quiet WantsMore = []
line_for quiet (Refused number) = []

-- whether it is a refusal
abbrev pub refuses_of : Answer → Bool
refuses_of (Frame at size what) = false
refuses_of WantsMore = false
refuses_of (Refused number) = true

abbrev pub stops_of : Why → Bool
stops_of Used = false
stops_of Full = false
stops_of Stopped = true

-- a state at a frame's first byte; and one past a piece that ends no frame
abbrev pub start_of : ℕ → ℕ → ℕ → Reading → Walk
start_of offset frames accepted rd =
    record { offset = offset; seen = 0; held = replicate 52 0; frames = frames; accepted = accepted; reading = rd }

abbrev pub paused_of : Walk → List ℕ → Walk
paused_of w p = (more_of w (put w.held w.seen p) (length p)).state

-- the frames told of, the state behind them, where in the block, and why no further
pub record Block : Type 0 where
  pub entries : List Entry
  pub state : Walk
  pub from : ℕ
  pub why : Why

abbrev pub stopped : Walk → ℕ → Why → Block
stopped w i y = record { entries = []; state = w; from = i; why = y }

abbrev pub telling : Entry → Block → Block
telling e r = record { entries = e ∷ r.entries; state = r.state; from = r.from; why = r.why }

-- what an answer leads to
abbrev pub followed : Answer → (Entry → Block) → Block → Block → Block
followed (Frame at size what) f m s = f (record { at = at; size = size; what = what })
followed WantsMore f m s = m
followed (Refused number) f m s = s

-- the bytes walked fit 64 bits, and no more frames are accepted than there are: so of a fresh state, and so it stays
pub record Sane (w : Walk) : Type 0 where
  pub bytes : w.offset + w.seen < 2 ^ 64
  pub counted : w.accepted ≤ w.frames

-- what a call leaves: in the buffer, and as its answer
abbrev pub left_of : Bool → List ℕ → ℕ → Block → List ℕ
left_of quiet out at r = sets out at (lines_of quiet r.entries)

abbrev pub end_of : Bool → ℕ → Block → Blocked
end_of quiet at r = record { state = r.state; from = r.from; at = at + length (lines_of quiet r.entries); why = r.why }

module _ (quiet : Bool) (win : List ℕ → Window) where
  -- the steps from place i of the block b on, at most k of them, into a buffer with `room` bytes left
  unfoldable pub block_of : ℕ → ℕ → Walk → List ℕ → ℕ → Block
  block_of zero room w b i = stopped w i Used
  block_of (suc k) room w b i =
      let st = step_of win w (drop i b) in
      let frame : Entry → Block = λ e. telling e (block_of k (room - length (line_of quiet e)) st.state b (i + st.used)) in
      let more = block_of k room st.state b (i + st.used) in
      cond (ltb i (length b)) (cond (ltb room longest) (stopped w i Full) (followed st.answer frame more (stopped w i Stopped))) (stopped w i Used)

  -- the steps of one call: a step uses a byte or more, or is the last
  abbrev pub call_of : Walk → List ℕ → ℕ → List ℕ → ℕ → Block
  call_of w b i out at = block_of (length b - i) (length out - at) w b i

  pub record Called (w : Walk) (b : List ℕ) (i : ℕ) (out : List ℕ) (at : ℕ) (after : List ℕ) (r : Blocked) : Type 0 where
    pub text : after ≡ left_of quiet out at (call_of w b i out at)
    pub end : r ≡ end_of quiet at (call_of w b i out at)
    pub inside : at ≤ length out → r.at ≤ length out
