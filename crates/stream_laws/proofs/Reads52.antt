-- Where next is tried after each read, between two answers of next other than "wants bytes" lie at most 52 reads that brought bytes: behind at most 51
-- of them next wants more, since each brings a byte at least and a window that is incomplete has at most 51.
-- Assumes nothing.
use Prim.Native.Nat.{ℕ, ◌+◌, ◌-◌, ◌≤◌, ◌<◌, min}
use mathlib.Core.Path.{◌≡◌}
use mathlib.Core.List.{List}
use mathlib.Core.Logic.{⊎_elim}
use native.Mathlib.Omega.{arith}
use lib.ListN.{length, length-take, length-drop}
use Rattle.format.specs.declared.Reading.{Reading}
use Rattle.format.proofs.Tests.{le-or-lt}
use Rattle.laws.proofs.Answers.{enough}
use Rattle.stream.specs.declared.Stream.{Stream}
use Rattle.stream.specs.declared.Step.{Step}
use Rattle.stream.specs.declared.Answer.TheVariants.{Wants, Ready}
use Rattle.stream.specs.Next.{window_at, next_of}
use Rattle.stream.specs.Room.{room_of}
use Rattle.stream.specs.Told.{told_of}
use Rattle.stream_laws.specs.Runs.{Sound, Wanting, start, room, empty, failed, read}
use Rattle.stream_laws.proofs.Steps.{front, there, Room, no_room, made, room-is}
use Rattle.stream_laws.proofs.Calls.{Kept, next-waits, told-came, told-kept, failed-stops}
use Rattle.stream_laws.proofs.Reach.{kept-sound}

-- a window that wants bytes has at most 51
pub short : (rd : Reading) (s : Stream) (b : List ℕ) → (next_of rd s b).answer ≡ Wants → s.end - s.start ≤ 51
short rd s b e =
    let q = next-waits rd s b e in
    let m : length (window_at s b) ≡ min (s.end - s.start) (length b - s.start) = simp (length-take, length-drop) in
    ⊎_elim
    (λ g. absurd (enough rd (window_at s b) (omega (arith, q.sound.ordered, q.sound.inside, q.whole)) q.short))
    (λ g. omega arith)
    (le-or-lt 52 (s.end - s.start))

-- the window is as long as there were reads, and behind one at most 51 bytes long
pub record Long (s : Stream) (k : ℕ) : Type 0 where
  pub sound : Sound s
  pub reads : k ≤ s.end - s.start
  pub few : 0 < k → s.end - s.start ≤ 51

kept-long : {s t : Stream} {k : ℕ} → Kept s t → Long s k → Long t k
kept-long p q = record {
  sound = kept-sound p q.sound;
  reads = omega (arith, p.start, p.end, q.reads);
  few = λ h. omega (arith, p.start, p.end, q.few h);
}

room-long : (s : Stream) (len : ℕ) (x : Step) {k : ℕ} → Room s len x → Long s k → Long x.state k
room-long s len _ (no_room _) q = q
room-long s len _ (made (front p a)) q = record {
  sound = record { ordered = omega arith; inside = omega (arith, p.few) };
  reads = omega (arith, q.reads);
  few = λ z. omega (arith, q.few z);
}
room-long s len _ (made (there p a)) q = record { sound = record { ordered = p.ordered; inside = p.inside }; reads = q.reads; few = q.few }

read-long : (s : Stream) (n : ℕ) {k : ℕ} → (told_of s n).answer ≡ Ready → Long s k → (told_of s n).state.end - (told_of s n).state.start ≤ 51
    → Long (told_of s n).state (k + 1)
read-long s n e q g =
    let t = told-came s n e in
    let f : s.end + n - s.start ≤ 51 = rw t.step at g in
    rw t.step (record {
      sound = record { ordered = omega (arith, t.sound.ordered); inside = omega (arith, t.sound.inside, t.fits) };
      reads = omega (arith, t.sound.ordered, t.some, q.reads);
      few = λ _. f;
    })

long : {s : Stream} {k : ℕ} → Wanting s k → Long s k
long (start h) = record { sound = h; reads = omega arith; few = λ z. absurd (let x : ⊥ = omega arith in x) }
long (room {s = s} p len) = room-long s len (room_of s len) (room-is s len) (long p)
long (empty {s = s} p n f) = kept-long (told-kept s n f) (long p)
long (failed {s = s} p) = kept-long (failed-stops s).0 (long p)
long (read {s = s} p n e rd b w) = read-long s n e (long p) (short rd (told_of s n).state b w)

-- with the read that ends them, at most 52
pub at-most-52 : {s : Stream} {k : ℕ} → Wanting s k → k + 1 ≤ 52
at-most-52 {s} {k} p =
    let q = long p in
    ⊎_elim (λ h. omega (arith, q.reads, q.few h)) (λ h. omega arith) (le-or-lt 1 k)
