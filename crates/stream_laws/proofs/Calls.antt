-- What the callers of the stream need of each answer: what stays, what rises, and that the free part is not empty.
-- Assumes nothing.
use Prim.Native.Nat.{ℕ, ◌+◌, ◌-◌, ◌≤◌, ◌<◌}
use mathlib.Core.Path.{◌≡◌, refl, ap, subst, ◌∙◌}
use mathlib.Core.Bool.{true, false, not}
use mathlib.Core.List.{List, [], ◌∷◌}
use native.Mathlib.Omega.{arith}
use types.Run.{OneOf, miss}
use mir.Val.{has_key}
use denote.Enum.Declared.{tag_of, declared}
use lib.Dec.{T}
use lib.ListN.{length}
use Rattle.std.specs.Prelude.{Ok, Err}
use Rattle.format.specs.declared.Reading.{Reading}
use Rattle.format.specs.declared.Fault.TheVariants.{Short}
use Rattle.records.specs.declared.Message.{Message as Record}
use Rattle.reader.specs.Window.{window_of}
use Rattle.stream.specs.contracts.Answer.{enum}
use Rattle.stream.specs.declared.Stream.{Stream}
use Rattle.stream.specs.declared.Step.{Step}
use Rattle.stream.specs.declared.Answer.{Answer}
use Rattle.stream.specs.declared.Answer.TheVariants.{Message, Wants, Ready}
use Rattle.stream.specs.State.{marks}
use Rattle.stream.specs.Next.{window_at, taken, next_of}
use Rattle.stream.specs.Room.{room_of}
use Rattle.stream.specs.Told.{fed, told_of, failed_of}
use Rattle.stream_laws.specs.Ends.{stops}
use Rattle.stream_laws.specs.Runs.{Sound}
use Rattle.stream_laws.proofs.Steps.{test, Next, no-next, message, wants, marked_next, next-is, Made, front, there, Room, no_room, made, room-is, Told, no-told, came, nothing, marked-told, told_is, Failed, 30-failed, marked-failed, failed-is}

-- an answer that stops is none that goes on
pub stops-not : {a c : Answer} → stops a ≡ true → stops c ≡ false → a ≡ c → ⊥
stops-not h g e = let z : ◌≡◌ {A = ℕ} 0 1 = cc in omega arith

-- all but the mark stays
pub record Kept (s t : Stream) : Type 0 where
  pub start : t.start ≡ s.start
  pub end : t.end ≡ s.end
  pub bytes : t.bytes_read ≡ s.bytes_read
  pub calls : t.read_calls ≡ s.read_calls
  pub messages : t.messages ≡ s.messages

kept : (s : Stream) → Kept s s
kept s = record { start = refl; end = refl; bytes = refl; calls = refl; messages = refl }

marks-kept : (s : Stream) (n p : ℕ) → Kept s (marks s n p).state
marks-kept s n p =
    test (λ (x : Step). Kept s x.state) s.error (λ _. kept s)
    (λ _. record { start = refl; end = refl; bytes = refl; calls = refl; messages = refl })

pub marks-stops : (s : Stream) (n p : ℕ) → stops (marks s n p).answer ≡ true
unfolding stops
marks-stops s n p = test (λ (x : Step). stops x.answer ≡ true) s.error (λ _. refl) (λ _. refl)

-- ---- next

-- it answers a message
pub record Takes (rd : Reading) (s : Stream) (b : List ℕ) (m : Record) (x : Step) : Type 0 where
  pub sound : Sound s
  pub whole : length b ≡ 8192
  pub used : ℕ
  pub accepts : window_of rd (window_at s b) ≡ Ok (m, used)
  pub counts : s.messages ≡ 18446744073709551615 → ⊥
  pub step : x ≡ taken s m used

takes_step : (rd : Reading) (s : Stream) (b : List ℕ) (m : Record) (x : Step) → Next rd s b x → x.answer ≡ Message m → Takes rd s b m x
unfolding stops
takes_step rd s b m _ (no-next _) e = let z : ◌≡◌ {A = ℕ} 0 1 = cc in absurd (omega arith)
takes_step rd s b m _ (message h l r n w f) e =
    let same : r ≡ m = cc in
    record { sound = h; whole = l; used = n; accepts = w ∙ ap (λ (r : Record). Ok (r, n)) same; counts = f; step = ap (λ (r : Record). taken s r n) same }
takes_step rd s b m _ (wants h l w) e = let z : ◌≡◌ {A = ℕ} 0 1 = cc in absurd (omega arith)
takes_step rd s b m _ (marked_next h l n p w) e = absurd (stops-not (marks-stops s n p) refl e)

pub next-takes : (rd : Reading) (s : Stream) (b : List ℕ) (m : Record) → (next_of rd s b).answer ≡ Message m → Takes rd s b m (next_of rd s b)
next-takes rd s b m e = takes_step rd s b m (next_of rd s b) (next-is rd s b) e

-- it wants bytes: the state stays
pub record Waits (rd : Reading) (s : Stream) (b : List ℕ) (x : Step) : Type 0 where
  pub sound : Sound s
  pub whole : length b ≡ 8192
  pub short : window_of rd (window_at s b) ≡ Err Short
  pub kept : x.state ≡ s

waits-step : (rd : Reading) (s : Stream) (b : List ℕ) (x : Step) → Next rd s b x → x.answer ≡ Wants → Waits rd s b x
unfolding stops
waits-step rd s b _ (no-next _) e = let z : ◌≡◌ {A = ℕ} 0 1 = cc in absurd (omega arith)
waits-step rd s b _ (message h l m n w f) e = let z : ◌≡◌ {A = ℕ} 0 1 = cc in absurd (omega arith)
waits-step rd s b _ (wants h l w) e = record { sound = h; whole = l; short = w; kept = refl }
waits-step rd s b _ (marked_next h l n p w) e = absurd (stops-not (marks-stops s n p) refl e)

pub next-waits : (rd : Reading) (s : Stream) (b : List ℕ) → (next_of rd s b).answer ≡ Wants → Waits rd s b (next_of rd s b)
next-waits rd s b e = waits-step rd s b (next_of rd s b) (next-is rd s b) e

-- a message raises one count, any other answer none
pub record Taken (s t : Stream) : Type 0 where
  pub messages : t.messages ≡ s.messages + 1
  pub calls : t.read_calls ≡ s.read_calls

pub next-message : (rd : Reading) (s : Stream) (b : List ℕ) (m : Record) → (next_of rd s b).answer ≡ Message m → Taken s (next_of rd s b).state
next-message rd s b m e = rw (next-takes rd s b m e).step (record { messages = refl; calls = refl })

other_step : (rd : Reading) (s : Stream) (b : List ℕ) (x : Step) → Next rd s b x → ((m : Record) → x.answer ≡ Message m → ⊥) → Kept s x.state
other_step rd s b _ (no-next _) f = kept s
other_step rd s b _ (message h l m n w g) f = absurd (f m refl)
other_step rd s b _ (wants h l w) f = kept s
other_step rd s b _ (marked_next h l n p w) f = marks-kept s n p

pub next-other : (rd : Reading) (s : Stream) (b : List ℕ) → ((m : Record) → (next_of rd s b).answer ≡ Message m → ⊥) → Kept s (next_of rd s b).state
next-other rd s b f = other_step rd s b (next_of rd s b) (next-is rd s b) f

-- where it answers neither a message nor that it wants bytes, it stops
answer-step : (rd : Reading) (s : Stream) (b : List ℕ) (x : Step) → Next rd s b x → ((m : Record) → x.answer ≡ Message m → ⊥) → (x.answer ≡ Wants → ⊥)
    → stops x.answer ≡ true
unfolding stops
answer-step rd s b _ (no-next _) f g = refl
answer-step rd s b _ (message h l m n w d) f g = absurd (f m refl)
answer-step rd s b _ (wants h l w) f g = absurd (g refl)
answer-step rd s b _ (marked_next h l n p w) f g = marks-stops s n p

pub next-stops : (rd : Reading) (s : Stream) (b : List ℕ) → ((m : Record) → (next_of rd s b).answer ≡ Message m → ⊥) → ((next_of rd s b).answer ≡ Wants → ⊥)
    → stops (next_of rd s b).answer ≡ true
next-stops rd s b f g = answer-step rd s b (next_of rd s b) (next-is rd s b) f g

-- ---- make room

-- it is ready: the window moved or stayed
made-step : (s : Stream) (len : ℕ) (x : Step) → Room s len x → x.answer ≡ Ready → Made s len x
made-step s len _ (no_room _) e = let z : ◌≡◌ {A = ℕ} 0 1 = cc in absurd (omega arith)
made-step s len _ (made p) e = p

pub room-made : (s : Stream) (len : ℕ) → (room_of s len).answer ≡ Ready → Made s len (room_of s len)
room-made s len e = made-step s len (room_of s len) (room-is s len) e

-- so the buffer has 8,192 bytes, and its free part, from end onward, is not empty
pub record Roomy (s : Stream) (len : ℕ) (t : Stream) : Type 0 where
  pub whole : len ≡ 8192
  pub free : t.end < 8192
  pub ordered : t.start ≤ t.end
  pub window : t.end - t.start ≡ s.end - s.start
  pub bytes : t.bytes_read ≡ s.bytes_read
  pub counts : s.read_calls ≡ 18446744073709551615 → ⊥
  pub calls : t.read_calls ≡ s.read_calls + 1
  pub messages : t.messages ≡ s.messages

room-step : (s : Stream) (len : ℕ) (x : Step) → Made s len x → Roomy s len x.state
room-step s len _ (front p a) = record {
  whole = p.whole;
  free = omega (arith, p.few);
  ordered = omega arith;
  window = omega arith;
  bytes = refl;
  counts = p.counts;
  calls = refl;
  messages = refl;
}
room-step s len _ (there p a) = record {
  whole = p.whole;
  free = a;
  ordered = p.ordered;
  window = refl;
  bytes = refl;
  counts = p.counts;
  calls = refl;
  messages = refl;
}

pub room-ready : (s : Stream) (len : ℕ) → (room_of s len).answer ≡ Ready → Roomy s len (room_of s len).state
room-ready s len e = room-step s len (room_of s len) (room-made s len e)

-- where it is not ready, it stops and leaves the state
room-else : (s : Stream) (len : ℕ) (x : Step) → Room s len x → (x.answer ≡ Ready → ⊥) → (x.state ≡ s) × (stops x.answer ≡ true)
unfolding stops
room-else s len _ (no_room _) f = (refl, refl)
room-else s len _ (made (front p a)) f = absurd (f refl)
room-else s len _ (made (there p a)) f = absurd (f refl)

pub room-refused : (s : Stream) (len : ℕ) → ((room_of s len).answer ≡ Ready → ⊥) → ((room_of s len).state ≡ s) × (stops (room_of s len).answer ≡ true)
room-refused s len f = room-else s len (room_of s len) (room-is s len) f

-- ---- told

-- ready: a byte or more came
pub record Came (s : Stream) (n : ℕ) (x : Step) : Type 0 where
  pub sound : Sound s
  pub some : 0 < n
  pub fits : n ≤ 8192 - s.end
  pub counts : n ≤ 18446744073709551615 - s.bytes_read
  pub step : x ≡ fed s n

came-step : (s : Stream) (n : ℕ) (x : Step) → Told s n x → x.answer ≡ Ready → Came s n x
unfolding stops
came-step s n _ (no-told _) e = let z : ◌≡◌ {A = ℕ} 0 1 = cc in absurd (omega arith)
came-step s n _ (came h a b d) e = record { sound = h; some = a; fits = b; counts = d; step = refl }
came-step s n _ (nothing h y d) e = let z : ◌≡◌ {A = ℕ} 0 1 = cc in absurd (omega arith)
came-step s n _ (marked-told h y _) e = absurd (stops-not (marks-stops s 10 0) refl e)

pub told-came : (s : Stream) (n : ℕ) → (told_of s n).answer ≡ Ready → Came s n (told_of s n)
told-came s n e = came-step s n (told_of s n) (told_is s n) e

-- not ready: all but the mark stays
unfed-step : (s : Stream) (n : ℕ) (x : Step) → Told s n x → (x.answer ≡ Ready → ⊥) → Kept s x.state
unfed-step s n _ (no-told _) f = kept s
unfed-step s n _ (came h a b d) f = absurd (f refl)
unfed-step s n _ (nothing h z e) f = kept s
unfed-step s n _ (marked-told h z _) f = marks-kept s 10 0

pub told-kept : (s : Stream) (n : ℕ) → ((told_of s n).answer ≡ Ready → ⊥) → Kept s (told_of s n).state
told-kept s n f = unfed-step s n (told_of s n) (told_is s n) f

-- the counts of calls and messages stay, and the answer is ready or stops
pub record Heard (s : Stream) (x : Step) : Type 0 where
  pub calls : x.state.read_calls ≡ s.read_calls
  pub messages : x.state.messages ≡ s.messages
  pub ends : (x.answer ≡ Ready → ⊥) → stops x.answer ≡ true

told-step : (s : Stream) (n : ℕ) (x : Step) → Told s n x → Heard s x
unfolding stops
told-step s n _ (no-told _) = record { calls = refl; messages = refl; ends = λ _. refl }
told-step s n _ (came h a b d) = record { calls = refl; messages = refl; ends = λ f. absurd (f refl) }
told-step s n _ (nothing h z e) = record { calls = refl; messages = refl; ends = λ _. refl }
told-step s n _ (marked-told h z _) =
    let k = marks-kept s 10 0 in
    record { calls = k.calls; messages = k.messages; ends = λ _. marks-stops s 10 0 }

pub told-heard : (s : Stream) (n : ℕ) → Heard s (told_of s n)
told-heard s n = told-step s n (told_of s n) (told_is s n)

-- ---- told that the read failed

failed-step : (s : Stream) (x : Step) → Failed s x → Kept s x.state × (stops x.answer ≡ true)
unfolding stops
failed-step s _ (30-failed _) = (kept s, refl)
failed-step s _ (marked-failed h) = (marks-kept s 11 0, marks-stops s 11 0)

pub failed-stops : (s : Stream) → Kept s (failed_of s).state × (stops (failed_of s).answer ≡ true)
failed-stops s = failed-step s (failed_of s) (failed-is s)

-- ---- where a `let .. else` went to its else, by the keys that the match has there

not-among : (ks : List ℕ) {a c : Answer} → T (not (has_key ks (tag_of (declared enum) c))) → OneOf ks (tag_of (declared enum) a) → a ≡ c → ⊥
not-among ks {c = c} t k e = miss ks (tag_of (declared enum) c) t (subst (λ (x : Answer). OneOf ks (tag_of (declared enum) x)) e k)

pub not-wants : {a : Answer} → OneOf (0 ∷ 2 ∷ 3 ∷ 4 ∷ []) (tag_of (declared enum) a) → a ≡ Wants → ⊥
not-wants k e = not-among (0 ∷ 2 ∷ 3 ∷ 4 ∷ []) tt k e

pub not-ready : {a : Answer} → OneOf (0 ∷ 1 ∷ 3 ∷ 4 ∷ []) (tag_of (declared enum) a) → a ≡ Ready → ⊥
not-ready k e = not-among (0 ∷ 1 ∷ 3 ∷ 4 ∷ []) tt k e
