-- How a run ends, by the call that ended it: with the messages that the input holds and with its stop, whatever the reads brought; or with 33.
-- Assumes nothing.
use Prim.Native.Nat.{ℕ, ◌-◌, ◌≤◌, ◌<◌}
use mathlib.Core.Path.{◌≡◌, refl, ap, ◌∙◌}
use mathlib.Core.Bool.{true, false}
use mathlib.Core.List.{List, [], ◌∷◌, ◌++◌, append-nil}
use mathlib.Core.Logic.{◌⊎◌, inl, inr}
use native.Mathlib.Omega.{arith}
use lib.ListN.{length}
use Rattle.std.specs.Prelude.{Err}
use Rattle.format.specs.declared.Reading.{Reading}
use Rattle.format.specs.declared.Fault.TheVariants.{Short}
use Rattle.records.specs.declared.Message.{Message as Record}
use Rattle.reader.specs.Window.{window_of}
use Rattle.laws.proofs.Answers.{keeps}
use Rattle.stream.specs.declared.Stream.{Stream}
use Rattle.stream.specs.declared.Step.{Step}
use Rattle.stream.specs.declared.Answer.{Answer}
use Rattle.stream.specs.declared.Answer.TheVariants.{Wants, Ready, Nothing, Refused}
use Rattle.stream.specs.State.{marks}
use Rattle.stream.specs.Next.{window_at, next_of}
use Rattle.stream.specs.Room.{room_buffer}
use Rattle.stream_laws.specs.Ends.{stops}
use Rattle.stream_laws.proofs.Steps.{31-next, 30-next, 33-next, Next, no-next, message, wants, marked_next, next-is, 31-room, 30-room, 34-room, 33-room, front, there, Room, no_room, made, room-is, 30-told, 32-told, 33-told, Told, no-told, came, nothing, marked-told, told_is}
use Rattle.stream_laws.proofs.Calls.{next-waits}
use Rattle.stream_laws.proofs.Reads52.{short}
use Rattle.heard.specs.Heard.{Heard, before, ends, stop_at, heard_of}
use Rattle.heard.specs.Runs.{Cutting, Read, roomed, told_at, Stopped, by_next, by-room, by-told, Fits}
use Rattle.heard.proofs.Inputs.{heard-cut, heard-bad}
use Rattle.heard.proofs.Windows.{length-window, room-same}
use Rattle.heard.proofs.Holds.{Holds, roomed-holds, holds}

-- with what the input holds; or with 33, where the counts have no room for it
abbrev pub Ends : Reading → List ℕ → List Record → Answer → Type 0
Ends rd input ms a = (heard_of rd input ≡ record { messages = ms; stop = a }) ⊎ ((a ≡ Refused 33 0) × (Fits input → ⊥))

-- the messages so far are all, and a is the stop
last : (rd : Reading) (input : List ℕ) (ms : List Record) (h : Heard) (a : Answer) → heard_of rd input ≡ before ms h → h ≡ ends a
    → heard_of rd input ≡ record { messages = ms; stop = a }
last rd input ms h a e f = e ∙ ap (before ms) f ∙ ap (λ (x : List Record). record { messages = x; stop = a }) (append-nil ms)

-- where the mark is clear, a refusal is told
clear-marks : (s : Stream) (n p : ℕ) → s.error ≡ false → (marks s n p).answer ≡ Refused n p
clear-marks s n p e = rw e

-- ---- next stops

next-ends : (rd : Reading) (input : List ℕ) (s : Stream) (b r : List ℕ) (ms : List Record) (x : Step) → Next rd s b x → stops x.answer ≡ true
    → Holds rd input 0 s b r ms → Ends rd input ms x.answer
unfolding stops
next-ends rd input s b r ms _ (no-next (31-next f)) e q = absurd (f q.whole)
next-ends rd input s b r ms _ (no-next (30-next f)) e q = absurd (f q.sound)
next-ends rd input s b r ms _ (no-next (33-next f)) e q = inr (refl, λ l. omega (arith, q.counted, q.bytes))
next-ends rd input s b r ms _ (message h l m n w f) e q = let z : ◌≡◌ {A = ℕ} 0 1 = cc in absurd (omega arith)
next-ends rd input s b r ms _ (wants h l w) e q = let z : ◌≡◌ {A = ℕ} 0 1 = cc in absurd (omega arith)
next-ends rd input s b r ms _ (marked_next h l n p w) e q =
    let v = window_at s b in
    let k = keeps rd v r (λ (f : window_of rd v ≡ Err Short). let z : ◌≡◌ {A = ℕ} 0 1 = cc in omega arith) in
    rw (clear-marks s n p q.clear) (inl (last rd input ms (heard_of rd (v ++ r)) (Refused n p) q.heard (heard-bad rd (v ++ r) n p (k ∙ w))))

-- ---- room is refused

room-ends : (rd : Reading) (input : List ℕ) (s : Stream) (b r : List ℕ) (ms : List Record) (x : Step) → Room s (length b) x → stops x.answer ≡ true
    → s.end - s.start ≤ 51 → Holds rd input 0 s b r ms → Ends rd input ms x.answer
unfolding stops
room-ends rd input s b r ms _ (no_room (31-room f)) e g q = absurd (f q.whole)
room-ends rd input s b r ms _ (no_room (30-room f)) e g q = absurd (f q.sound)
room-ends rd input s b r ms _ (no_room (34-room f)) e g q = absurd (omega arith)
room-ends rd input s b r ms _ (no_room (33-room f)) e g q = inr (refl, λ l. omega (arith, q.calls, q.bytes))
room-ends rd input s b r ms _ (made (front p a)) e g q = let z : ◌≡◌ {A = ℕ} 0 1 = cc in absurd (omega arith)
room-ends rd input s b r ms _ (made (there p a)) e g q = let z : ◌≡◌ {A = ℕ} 0 1 = cc in absurd (omega arith)

-- ---- told stops

-- a window with a byte in it is cut inside a message
cut_inside : (w : List ℕ) → 0 < length w → stop_at w ≡ Refused 10 0
cut_inside [] h = absurd (omega arith)
cut_inside (x ∷ w) h = refl

-- nothing came, and nothing was left
at-end : (rd : Reading) (input : List ℕ) (s : Stream) (b r : List ℕ) (ms : List Record) (a : Answer) → window_of rd (window_at s b) ≡ Err Short → r ≡ []
    → stop_at (window_at s b) ≡ a → Holds rd input 1 s b r ms → Ends rd input ms a
at-end rd input s b r ms a w z d q =
    let v = window_at s b in
    let i : v ++ r ≡ v = ap (λ (x : List ℕ). v ++ x) z ∙ append-nil v in
    inl (last rd input ms (heard_of rd (v ++ r)) a q.heard (ap (heard_of rd) i ∙ heard-cut rd v w ∙ ap ends d))

told-ends : (rd : Reading) (input : List ℕ) (s : Stream) (b r : List ℕ) (ms : List Record) {may : Cutting} (y : Read may s.end b r) (x : Step)
    → Told s y.brings.count x → stops x.answer ≡ true → window_of rd (window_at s b) ≡ Err Short
    → Holds rd input 1 s b r ms → Ends rd input ms x.answer
unfolding stops
told-ends rd input s b r ms y _ (no-told (30-told f)) e g q = absurd (f q.sound)
told-ends rd input s b r ms y _ (no-told (32-told f)) e g q = absurd (omega (arith, y.brings.fits, q.whole))
told-ends rd input s b r ms y _ (no-told (33-told f)) e g q = inr (refl, λ l. omega (arith, y.brings.left, q.bytes))
told-ends rd input s b r ms y _ (came h k c d) e g q = let z : ◌≡◌ {A = ℕ} 0 1 = cc in absurd (omega arith)
told-ends rd input s b r ms y _ (nothing h k d) e g q =
    let z : s.end - s.start ≡ 0 = omega arith in
    at-end rd input s b r ms Nothing g (y.brings.some k) (rw z) q
told-ends rd input s b r ms y _ (marked-told h k f) e g q =
    let l = length-window s b h q.whole in
    rw (clear-marks s 10 0 q.clear)
    (at-end rd input s b r ms (Refused 10 0) g (y.brings.some k) (cut_inside (window_at s b) (omega (arith, h.ordered, f))) q)

-- ---- so every run

-- where room was made the window still wants bytes
still-short : (rd : Reading) (s : Stream) (b : List ℕ) → (next_of rd s b).answer ≡ Wants → (roomed rd s b).answer ≡ Ready
    → window_of rd (window_at (roomed rd s b).state (room_buffer (next_of rd s b).state b)) ≡ Err Short
still-short rd s b w e =
    let k = next-waits rd s b w in
    ap (window_of rd) ((room-same (next_of rd s b).state b e).window ∙ ap (λ (x : Stream). window_at x b) k.kept) ∙ k.short

pub ended : {rd : Reading} {may : Cutting} {input : List ℕ} {ms : List Record} {a : Answer} → Stopped rd may input ms a → Ends rd input ms a
ended {rd} {input = input} (by_next {s = s} {b = b} {r = r} {ms = ms} p e) = next-ends rd input s b r ms (next_of rd s b) (next-is rd s b) e (holds p)
ended {rd} {input = input} (by-room {s = s} {b = b} {r = r} {ms = ms} p w e) =
    let k = (next-waits rd s b w).kept in
    room-ends rd input (next_of rd s b).state b r ms (roomed rd s b) (room-is (next_of rd s b).state (length b)) e
    (rw k (short rd s b w)) (rw k (holds p))
ended {rd} {may} {input = input} (by-told {s = s} {b = b} {r = r} {ms = ms} p w e q t) =
    told-ends rd input (roomed rd s b).state (room_buffer (next_of rd s b).state b) r ms q (told_at rd may s b r q)
    (told_is (roomed rd s b).state q.brings.count) t (still-short rd s b w e) (roomed-holds rd input s b r ms w e (holds p))
