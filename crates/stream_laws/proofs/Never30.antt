-- A sound state is never refused with 30, and every state that the calls reach from the fresh one is sound.
-- Assumes nothing.
use Prim.Native.Nat.{ℕ, ◌≤◌}
use mathlib.Core.Path.{◌≡◌}
use mathlib.Core.List.{List}
use native.Mathlib.Omega.{arith}
use Rattle.format.specs.declared.Reading.{Reading}
use Rattle.laws.proofs.Numbers.{number-low}
use Rattle.stream.specs.declared.Stream.{Stream}
use Rattle.stream.specs.declared.Step.{Step}
use Rattle.stream.specs.State.{marks}
use Rattle.stream.specs.Meaning.{number_of}
use Rattle.stream.specs.Next.{window_at, next_of}
use Rattle.stream.specs.Room.{room_of}
use Rattle.stream.specs.Told.{told_of, failed_of}
use Rattle.stream_laws.specs.Runs.{Sound, Reached}
use Rattle.stream_laws.proofs.Steps.{test, 31-next, 30-next, 33-next, Next, no-next, message, wants, marked_next, next-is, 31-room, 30-room, 34-room, 33-room, front, there, Room, no_room, made, room-is, 30-told, 32-told, 33-told, Told, no-told, came, nothing, marked-told, told_is, Failed, 30-failed, marked-failed, failed-is}
use Rattle.stream_laws.proofs.Reach.{known}

abbrev pub Not30 : Step → Type 0
Not30 x = number_of x.answer ≡ 30 → ⊥

marks-not : (s : Stream) (n p : ℕ) → n ≤ 11 → Not30 (marks s n p)
marks-not s n p h = test Not30 s.error (λ _ e. omega arith) (λ _ e. omega arith)

next-not : (rd : Reading) (s : Stream) (b : List ℕ) (x : Step) → Next rd s b x → Sound s → Not30 x
next-not rd s b _ (no-next (31-next _)) h e = omega arith
next-not rd s b _ (no-next (30-next f)) h e = f h
next-not rd s b _ (no-next (33-next _)) h e = omega arith
next-not rd s b _ (message g l m n w f) h e = omega arith
next-not rd s b _ (wants g l w) h e = omega arith
next-not rd s b _ (marked_next g l n p w) h e = marks-not s n p (omega (arith, number-low rd (window_at s b) n p w)) e

room-not : (s : Stream) (len : ℕ) (x : Step) → Room s len x → Sound s → Not30 x
room-not s len _ (no_room (31-room _)) h e = omega arith
room-not s len _ (no_room (30-room f)) h e = f h
room-not s len _ (no_room (34-room _)) h e = omega arith
room-not s len _ (no_room (33-room _)) h e = omega arith
room-not s len _ (made (front p a)) h e = omega arith
room-not s len _ (made (there p a)) h e = omega arith

told-not : (s : Stream) (n : ℕ) (x : Step) → Told s n x → Sound s → Not30 x
told-not s n _ (no-told (30-told f)) h e = f h
told-not s n _ (no-told (32-told _)) h e = omega arith
told-not s n _ (no-told (33-told _)) h e = omega arith
told-not s n _ (came g a c d) h e = omega arith
told-not s n _ (nothing g z d) h e = omega arith
told-not s n _ (marked-told g z _) h e = marks-not s 10 0 (omega arith) e

failed-not : (s : Stream) (x : Step) → Failed s x → Sound s → Not30 x
failed-not s _ (30-failed f) h e = f h
failed-not s _ (marked-failed g) h e = marks-not s 11 0 (omega arith) e

pub never-30 : {s : Stream} {i j k : ℕ} → Reached s i j k
    → ((rd : Reading) (b : List ℕ) → Not30 (next_of rd s b)) × ((len : ℕ) → Not30 (room_of s len)) × ((n : ℕ) → Not30 (told_of s n)) × Not30 (failed_of s)
never-30 {s} p =
    let h : Sound s = (known p).sound in (
      λ rd b. next-not rd s b (next_of rd s b) (next-is rd s b) h,
      λ len. room-not s len (room_of s len) (room-is s len) h,
      λ n. told-not s n (told_of s n) (told_is s n) h,
      failed-not s (failed_of s) (failed-is s) h,
    )
