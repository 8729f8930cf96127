-- Which texts the program may hand to standard output, and when.
-- Assumes nothing.
use Rattle.std.specs.Prelude.{ℕ, ◌+◌, ◌≡◌, true, List, ◌⊎◌, take, drop}
use Rattle.standard.specs.declared.Brought.{Brought}
use Rattle.standard.specs.Reads.{Silent}
use Rattle.reader.specs.Window.{window_of}
use Rattle.walk.specs.declared.Walk.{Walk}
use Rattle.walk.specs.declared.Answer.TheVariants.{Refused}
use Rattle.walk.specs.Walk.{own_step}
use Rattle.lines.specs.declared.Blocked.{Blocked}
use Rattle.lines.specs.Lines.{closing_of}
use Rattle.lines.specs.Blocks.{Called}
use Rattle.framing.specs.declared.sent.Sent.{Sent}

-- the lines, quiet or not as all before, of the call of `walk_block` over the block b from place i on, from the state that was sent so far, that answered r;
-- all writes were taken
pub record Lines (s : Sent) (b : List ℕ) (i : ℕ) (r : Blocked) (text : List ℕ) : Type 0 where
  pub good : s.written.taken ≡ true
  pub out : List ℕ
  pub after : List ℕ
  pub called : Called s.quiet (window_of s.state.reading) s.state b i out 0 after r
  pub lines : text ≡ take r.at after

-- the walk can no further: the step from w on, over what is left of a block, refuses 33
pub record Refuses (w : Walk) : Type 0 where
  pub block : List ℕ
  pub place : ℕ
  pub answer : (own_step w (drop place block)).answer ≡ Refused 33

-- all that the reads brought was walked, and the last of them brought nothing
pub record AllWalked (w : Walk) (b : Brought) : Type 0 where
  pub silent : Silent b
  pub total : b.total ≡ w.offset + w.seen

-- the closing lines of the state that was sent, at the input's end or a refusal
pub record Closes (s : Sent) (b : Brought) (text : List ℕ) : Type 0 where
  pub good : s.written.taken ≡ true
  pub done : AllWalked s.state b ⊎ Refuses s.state
  pub lines : text ≡ closing_of s.state.offset s.state.seen s.state.frames s.state.accepted
