-- What the stream's calls reach, in any order, with any buffers and any readings: from the fresh state on, with what was told, made room for and answered; and from
-- any sound state on, with the reads that brought bytes and were followed by a next that wants more.
-- Assumes nothing.
use Rattle.std.specs.Prelude.{ℕ, ◌+◌, ◌≤◌, ◌≡◌, List}
use Rattle.format.specs.declared.Reading.{Reading}
use Rattle.records.specs.declared.Message.{Message as Record}
use Rattle.stream.specs.declared.Stream.{Stream}
use Rattle.stream.specs.declared.Answer.TheVariants.{Message, Wants, Ready}
use Rattle.stream.specs.State.{fresh_state}
use Rattle.stream.specs.Next.{next_of}
use Rattle.stream.specs.Room.{room_of}
use Rattle.stream.specs.Told.{told_of, failed_of}

-- a state that 30 does not refuse
pub record Sound (s : Stream) : Type 0 where
  pub ordered : s.start ≤ s.end
  pub inside : s.end ≤ 8192

-- reached: the sum of the bytes told, the make-room calls that were not refused, the messages answered
pub data Reached : Stream → ℕ → ℕ → ℕ → Type 0 where
  fresh : Reached fresh_state 0 0 0
  message : {s : Stream} {i j k : ℕ} → Reached s i j k → (rd : Reading) (b : List ℕ) (m : Record) → (next_of rd s b).answer ≡ Message m → Reached (next_of rd s b).state i j (k + 1)
  other : {s : Stream} {i j k : ℕ} → Reached s i j k → (rd : Reading) (b : List ℕ) → ((m : Record) → (next_of rd s b).answer ≡ Message m → ⊥) → Reached (next_of rd s b).state i j k
  room : {s : Stream} {i j k : ℕ} → Reached s i j k → (len : ℕ) → (room_of s len).answer ≡ Ready → Reached (room_of s len).state i (j + 1) k
  no_room : {s : Stream} {i j k : ℕ} → Reached s i j k → (len : ℕ) → ((room_of s len).answer ≡ Ready → ⊥) → Reached (room_of s len).state i j k
  told : {s : Stream} {i j k : ℕ} → Reached s i j k → (n : ℕ) → (told_of s n).answer ≡ Ready → Reached (told_of s n).state (i + n) j k
  not-told : {s : Stream} {i j k : ℕ} → Reached s i j k → (n : ℕ) → ((told_of s n).answer ≡ Ready → ⊥) → Reached (told_of s n).state i j k
  failed : {s : Stream} {i j k : ℕ} → Reached s i j k → Reached (failed_of s).state i j k

-- so many reads brought bytes, and behind each of them next was tried and wanted more
pub data Wanting : Stream → ℕ → Type 0 where
  start : {s : Stream} → Sound s → Wanting s 0
  room : {s : Stream} {k : ℕ} → Wanting s k → (len : ℕ) → Wanting (room_of s len).state k
  empty : {s : Stream} {k : ℕ} → Wanting s k → (n : ℕ) → ((told_of s n).answer ≡ Ready → ⊥) → Wanting (told_of s n).state k
  failed : {s : Stream} {k : ℕ} → Wanting s k → Wanting (failed_of s).state k
  read : {s : Stream} {k : ℕ} → Wanting s k → (n : ℕ) → (told_of s n).answer ≡ Ready → (rd : Reading) (b : List ℕ) → (next_of rd (told_of s n).state b).answer ≡ Wants
      → Wanting (told_of s n).state (k + 1)
