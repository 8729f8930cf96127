-- What each call of the stream comes to, case by case: with the tests that led there, and the step.
-- Assumes nothing.
use Prim.Native.Nat.{ℕ, ◌-◌, ◌≤◌, ◌<◌}
use mathlib.Core.Path.{◌≡◌, refl}
use mathlib.Core.Bool.{Bool, true, false, cond}
use mathlib.Core.List.{List}
use native.Mathlib.Omega.{arith}
use borrow.Author.Tests.{ltb-true, ltb-false, leb-true, leb-false, eqb-true, eqb-false}
use lib.Dec.{ltb, leb, eqb}
use lib.ListN.{length}
use Rattle.std.specs.Prelude.{Ok, Err}
use Rattle.format.specs.declared.Reading.{Reading}
use Rattle.format.specs.declared.Fault.TheVariants.{Short, Refused}
use Rattle.format.specs.Meaning.{bad}
use Rattle.records.specs.declared.Message.{Message as Record}
use Rattle.reader.specs.Window.{window_of, Window}
use Rattle.stream.specs.declared.Stream.{Stream}
use Rattle.stream.specs.declared.Step.{Step}
use Rattle.stream.specs.declared.Answer.TheVariants.{Wants, Nothing}
use Rattle.stream.specs.State.{refuses, marks, sized, in_bounds}
use Rattle.stream.specs.Next.{window_at, taken, next_by, next_of}
use Rattle.stream.specs.Room.{roomy, room_of}
use Rattle.stream.specs.Told.{fed, told_of, failed_of}
use Rattle.stream.proofs.Rooms.{Passes}
use Rattle.stream_laws.specs.Runs.{Sound}

-- what holds of both ways of a test holds of the test
pub test : (P : Step → Type 0) (b : Bool) {x y : Step} → (b ≡ true → P x) → (b ≡ false → P y) → P (cond b x y)
test P true f g = f refl
test P false f g = g refl

-- 30, or the state is sound
checked : (P : Step → Type 0) (s : Stream) {go : Step} → ((Sound s → ⊥) → P (refuses s 30)) → (Sound s → P go) → P (in_bounds s (refuses s) go)
checked P s bad good =
    test P (leb s.start s.end)
    (λ a. test P (leb s.end 8192)
    (λ b. good (record { ordered = leb-true _ _ a; inside = leb-true _ _ b }))
    (λ b. bad (λ h. omega (arith, leb-false s.end 8192 b, h.inside))))
    (λ a. bad (λ h. omega (arith, leb-false s.start s.end a, h.ordered)))

-- 31, or the buffer has 8,192 bytes
sizes : (P : Step → Type 0) (s : Stream) (len : ℕ) {go : Step} → ((len ≡ 8192 → ⊥) → P (refuses s 31)) → (len ≡ 8192 → P go)
    → P (sized len (refuses s) go)
sizes P s len bad good = test P (eqb len 8192) (λ a. good (eqb-true _ _ a)) (λ a. bad (eqb-false _ _ a))

-- next: the refusals that leave the state, and the cases
pub data NoNext (s : Stream) (b : List ℕ) : ℕ → Type 0 where
  31-next : (length b ≡ 8192 → ⊥) → NoNext s b 31
  30-next : (Sound s → ⊥) → NoNext s b 30
  33-next : 18446744073709551615 ≤ s.messages → NoNext s b 33

pub data Next (rd : Reading) (s : Stream) (b : List ℕ) : Step → Type 0 where
  no-next : {n : ℕ} → NoNext s b n → Next rd s b (refuses s n)
  message : Sound s → length b ≡ 8192 → (m : Record) (n : ℕ) → window_of rd (window_at s b) ≡ Ok (m, n) → (s.messages ≡ 18446744073709551615 → ⊥)
      → Next rd s b (taken s m n)
  wants : Sound s → length b ≡ 8192 → window_of rd (window_at s b) ≡ Err Short → Next rd s b (record { state = s; answer = Wants })
  marked_next : Sound s → length b ≡ 8192 → (n p : ℕ) → window_of rd (window_at s b) ≡ Err (bad n p) → Next rd s b (marks s n p)

next-by : (rd : Reading) (s : Stream) (b : List ℕ) (w : Window) → Sound s → length b ≡ 8192 → window_of rd (window_at s b) ≡ w → Next rd s b (next_by s w)
next-by rd s b (Ok (m, n)) h l e =
    test (Next rd s b) (eqb s.messages 18446744073709551615)
    (λ a. no-next (33-next (omega (arith, eqb-true s.messages 18446744073709551615 a))))
    (λ a. message h l m n e (eqb-false _ _ a))
next-by rd s b (Err Short) h l e = wants h l e
next-by rd s b (Err (Refused r)) h l e = marked_next h l r.number r.place e

pub next-is : (rd : Reading) (s : Stream) (b : List ℕ) → Next rd s b (next_of rd s b)
unfolding next_of
next-is rd s b =
    sizes (Next rd s b) s (length b) (λ f. no-next (31-next f))
    (λ l. checked (Next rd s b) s (λ f. no-next (30-next f)) (λ h. next-by rd s b (window_of rd (window_at s b)) h l refl))

-- make room: the refusals, and the window moved or left where it is
pub data NoRoom (s : Stream) (len : ℕ) : ℕ → Type 0 where
  31-room : (len ≡ 8192 → ⊥) → NoRoom s len 31
  30-room : (Sound s → ⊥) → NoRoom s len 30
  34-room : 52 ≤ s.end - s.start → NoRoom s len 34
  33-room : 18446744073709551615 ≤ s.read_calls → NoRoom s len 33

pub data Made (s : Stream) (len : ℕ) : Step → Type 0 where
  front : Passes s len → s.end ≡ 8192 → Made s len (roomy s 0 (s.end - s.start))
  there : Passes s len → s.end < 8192 → Made s len (roomy s s.start s.end)

pub data Room (s : Stream) (len : ℕ) : Step → Type 0 where
  no_room : {n : ℕ} → NoRoom s len n → Room s len (refuses s n)
  made : {x : Step} → Made s len x → Room s len x

pub room-is : (s : Stream) (len : ℕ) → Room s len (room_of s len)
unfolding room_of
room-is s len =
    let P = Room s len in
    sizes P s len (λ f. no_room (31-room f))
    (λ l. checked P s (λ f. no_room (30-room f))
    (λ h. test P (leb 52 (s.end - s.start)) (λ a. no_room (34-room (leb-true _ _ a)))
    (λ a. test P (eqb s.read_calls 18446744073709551615)
    (λ b. no_room (33-room (omega (arith, eqb-true s.read_calls 18446744073709551615 b))))
    (λ r.
    let p : Passes s len = record { whole = l; ordered = h.ordered; inside = h.inside; few = leb-false _ _ a; counts = eqb-false _ _ r } in
    test P (eqb s.end 8192) (λ e. made (front p (eqb-true _ _ e))) (λ e. made (there p (omega (arith, h.inside, eqb-false s.end 8192 e))))))))

-- told how many bytes came: the refusals that leave the state, and the cases
pub data NoTold (s : Stream) (n : ℕ) : ℕ → Type 0 where
  30-told : (Sound s → ⊥) → NoTold s n 30
  32-told : 8192 - s.end < n → NoTold s n 32
  33-told : 18446744073709551615 - s.bytes_read < n → NoTold s n 33

pub data Told (s : Stream) (n : ℕ) : Step → Type 0 where
  no-told : {k : ℕ} → NoTold s n k → Told s n (refuses s k)
  came : Sound s → 0 < n → n ≤ 8192 - s.end → n ≤ 18446744073709551615 - s.bytes_read → Told s n (fed s n)
  nothing : Sound s → n ≡ 0 → s.start ≡ s.end → Told s n (record { state = s; answer = Nothing })
  marked-told : Sound s → n ≡ 0 → (s.start ≡ s.end → ⊥) → Told s n (marks s 10 0)

pub told_is : (s : Stream) (n : ℕ) → Told s n (told_of s n)
unfolding told_of
told_is s n =
    let P = Told s n in
    checked P s (λ f. no-told (30-told f))
    (λ h. test P (leb n (8192 - s.end))
    (λ a. test P (leb n (18446744073709551615 - s.bytes_read))
    (λ b. test P (ltb 0 n) (λ d. came h (ltb-true _ _ d) (leb-true _ _ a) (leb-true _ _ b))
    (λ d. let z : n ≡ 0 = omega (arith, ltb-false 0 n d) in
    test P (eqb s.start s.end) (λ e. nothing h z (eqb-true _ _ e)) (λ e. marked-told h z (eqb-false _ _ e))))
    (λ b. no-told (33-told (leb-false _ _ b))))
    (λ a. no-told (32-told (leb-false _ _ a))))

-- told that the read failed
pub data Failed (s : Stream) : Step → Type 0 where
  30-failed : (Sound s → ⊥) → Failed s (refuses s 30)
  marked-failed : Sound s → Failed s (marks s 11 0)

pub failed-is : (s : Stream) → Failed s (failed_of s)
unfolding failed_of
failed-is s = checked (Failed s) s 30-failed marked-failed
