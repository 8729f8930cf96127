-- A read of standard input for a stream: it is told to the stream as what it brought.
-- Assumes nothing.
use Rattle.std.specs.Prelude.{ℕ, ◌-◌, ◌≡◌, Bool, true, false, List, length, take, Ok, Err}
use Rattle.standard.specs.declared.Brought.{Brought}
use Rattle.standard.specs.Reads.{Reads}
use Rattle.stream.specs.declared.Stream.{Stream}
use Rattle.stream.specs.declared.Step.{Step}
use Rattle.stream.specs.declared.Answer.{Answer}
use Rattle.stream.specs.declared.Answer.TheVariants.{Message, Wants, Ready, Nothing, Refused}
use Rattle.stream.specs.Room.{room_of, room_buffer}
use Rattle.stream.specs.Told.{told_of, failed_of}
use Rattle.feeding.specs.declared.Turn.{Turn}

-- the answer is ready
abbrev pub is_ready : Answer → Bool
is_ready (Message m) = false
is_ready Wants = false
is_ready Ready = true
is_ready Nothing = false
is_ready (Refused n p) = false

-- what the state is told of a read
abbrev pub tell_of : Stream → Brought → Step
tell_of s b = elim b.came [ Ok n ↦ told_of s n | Err _ ↦ failed_of s ]

-- a read into the free part of the buffer that room was made in: what stands before the free part stays, and the state is told what the read brought
pub record Came (s : Stream) (v : Brought) (b : List ℕ) (r : Turn) (c : List ℕ) : Type 0 where
  pub reads : Reads v (length b - (room_of s (length b)).state.end) r.brought
  pub front : take (room_of s (length b)).state.end c ≡ take (room_of s (length b)).state.end (room_buffer s b)
  pub step : r.step ≡ tell_of (room_of s (length b)).state r.brought

-- a turn from state s, reads v and buffer b, to r and buffer c: where no room is made that is its answer, and there is no read
pub record Fed (s : Stream) (v : Brought) (b : List ℕ) (r : Turn) (c : List ℕ) : Type 0 where
  pub long : length c ≡ length b
  pub no_room : ((room_of s (length b)).answer ≡ Ready → ⊥) → (r.step ≡ room_of s (length b)) × (r.brought ≡ v)
  pub came : (room_of s (length b)).answer ≡ Ready → Came s v b r c
