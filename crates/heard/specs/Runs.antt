-- Runs of the stream's calls over an input, by one reading, as a caller makes them: next is tried; a message is taken and next tried again; where next wants
-- bytes room is made, a read brings some bytes into the free part, and the state is told how many. Each state and each buffer is what the definition of the
-- call gives, and the first answer that is nothing more or a refusal ends the run.
-- Assumes nothing.
use Rattle.std.specs.Prelude.{ℕ, suc, ◌+◌, ◌-◌, ◌≤◌, ◌<◌, min, ◌≡◌, true, List, [], ◌∷◌, ◌++◌, length, take, drop}
use Rattle.format.specs.declared.Reading.{Reading}
use Rattle.records.specs.declared.Message.{Message as Record}
use Rattle.stream.specs.declared.Stream.{Stream}
use Rattle.stream.specs.declared.Step.{Step}
use Rattle.stream.specs.declared.Answer.{Answer}
use Rattle.stream.specs.declared.Answer.TheVariants.{Message, Wants, Ready}
use Rattle.stream.specs.State.{fresh_state}
use Rattle.stream.specs.Next.{next_of}
use Rattle.stream.specs.Room.{room_of, room_buffer}
use Rattle.stream.specs.Told.{told_of}
use Rattle.stream_laws.specs.Ends.{stops}

-- A cutting: how many bytes a read may bring, by the room that it has and by what is left of the input. What is left falls with each read, so a
-- cutting can tell the reads of a run apart.
abbrev pub Cutting : Type 1
Cutting = ℕ → List ℕ → ℕ → Type 0

-- the bytes that one read brings: any that fit and are left, and none only at the input's end
pub record Brings (may : Cutting) (room : ℕ) (r : List ℕ) : Type 0 where
  pub count : ℕ
  pub fits : count ≤ room
  pub left : count ≤ length r
  pub some : count ≡ 0 → r ≡ []
  pub allowed : may room r count

-- a cutting that has a read wherever there is room
abbrev pub Feeds : Cutting → Type 0
Feeds may = (room : ℕ) (r : List ℕ) → 0 < room → Brings may room r

-- the cutting by sizes: where k bytes are left a read brings `size k` bytes and one, cut to the room and to these k
abbrev pub by_sizes : (ℕ → ℕ) → Cutting
by_sizes size room r n = n ≡ min room (min (suc (size (length r))) (length r))

-- a read into the free part of b, from e on: its bytes stand there; what it leaves in the rest of the free part is open
pub record Read (may : Cutting) (e : ℕ) (b r : List ℕ) : Type 0 where
  pub brings : Brings may (length b - e) r
  pub buffer : List ℕ
  pub long : length buffer ≡ length b
  pub put : take (e + brings.count) buffer ≡ take e b ++ take brings.count r

-- room, made in the state that next left
abbrev pub roomed : Reading → Stream → List ℕ → Step
roomed rd s b = room_of (next_of rd s b).state (length b)

-- the read that follows
abbrev pub ReadAt : Reading → Cutting → Stream → List ℕ → List ℕ → Type 0
ReadAt rd may s b r = Read may (roomed rd s b).state.end (room_buffer (next_of rd s b).state b) r

-- and what is told then
abbrev pub told_at : (rd : Reading) (may : Cutting) (s : Stream) (b r : List ℕ) → ReadAt rd may s b r → Step
told_at rd may s b r q = told_of (roomed rd s b).state q.brings.count

-- a run so far: the state, the buffer, what is left of the input, and the messages answered, in order
pub data Run (rd : Reading) (may : Cutting) (input : List ℕ) : Stream → List ℕ → List ℕ → List Record → Type 0 where
  fresh : {b : List ℕ} → length b ≡ 8192 → Run rd may input fresh_state b input []
  message : {s : Stream} {b r : List ℕ} {ms : List Record} → Run rd may input s b r ms → (m : Record) → (next_of rd s b).answer ≡ Message m
      → Run rd may input (next_of rd s b).state b r (ms ++ (m ∷ []))
  read : {s : Stream} {b r : List ℕ} {ms : List Record} → Run rd may input s b r ms → (next_of rd s b).answer ≡ Wants → (roomed rd s b).answer ≡ Ready
      → (q : ReadAt rd may s b r) → (told_at rd may s b r q).answer ≡ Ready
      → Run rd may input (told_at rd may s b r q).state q.buffer (drop q.brings.count r) ms

-- a run that has ended: the messages answered, and the answer that ended it
pub data Stopped (rd : Reading) (may : Cutting) (input : List ℕ) : List Record → Answer → Type 0 where
  by_next : {s : Stream} {b r : List ℕ} {ms : List Record} → Run rd may input s b r ms → stops (next_of rd s b).answer ≡ true
      → Stopped rd may input ms (next_of rd s b).answer
  by-room : {s : Stream} {b r : List ℕ} {ms : List Record} → Run rd may input s b r ms → (next_of rd s b).answer ≡ Wants → stops (roomed rd s b).answer ≡ true
      → Stopped rd may input ms (roomed rd s b).answer
  by-told : {s : Stream} {b r : List ℕ} {ms : List Record} → Run rd may input s b r ms → (next_of rd s b).answer ≡ Wants → (roomed rd s b).answer ≡ Ready
      → (q : ReadAt rd may s b r) → stops (told_at rd may s b r q).answer ≡ true
      → Stopped rd may input ms (told_at rd may s b r q).answer

-- an input whose bytes, messages and read calls can be counted, the last call too, which brings nothing: it has less than 2^64 - 1 bytes
abbrev pub Fits : List ℕ → Type 0
Fits input = length input < 18446744073709551615
