-- What a call makes of the parts that it looks at is what it makes of the whole record: for each call the state of those parts (`..-parts`), the record
-- with the parts that the call may change stored back (`..-into`), and that what comes out is the call's own definition at the record (`..-back`).
-- Assumes nothing.
use mathlib.Core.Path.{◌≡◌, refl, ap, ◌∙◌}
use mathlib.Core.Bool.{Bool, true, false, cond}
use mathlib.Core.List.{List}
use Prim.Native.Nat.{ℕ, ◌-◌}
use lib.Dec.{ltb, leb, eqb}
use lib.ListN.{length}
use Rattle.format.specs.declared.Reading.{Reading}
use Rattle.std.proofs.Common.{Ok, Err}
use Rattle.format.specs.declared.Fault.TheVariants.{Short, Refused}
use Rattle.reader.specs.Window.{window_of, Window}
use Rattle.stream.specs.declared.Stream.{Stream}
use Rattle.stream.specs.declared.Step.{Step}
use Rattle.stream.specs.Next.{window_at, next_by, next_of}
use Rattle.stream.specs.Room.{room_of, room_buffer}
use Rattle.stream.specs.Told.{told_of, failed_of}
use Rattle.lent.specs.Parts.{state_of}

-- a function of a test's outcome is the outcome of the function's values
across : (f : Step → Step) (t : Bool) {x y u v : Step} → f x ≡ u → f y ≡ v → f (cond t x y) ≡ cond t u v
across f true p q = p
across f false p q = q

-- a step whose state is stored back into a record
abbrev put_in : (Step → Stream) → Step → Step
put_in into r = record { state = into r; answer = r.answer }

stored : (into : Step → Stream) {r x y : Step} → r ≡ x → put_in into x ≡ y → (r.answer ≡ y.answer) × (into r ≡ y.state)
stored into e l = let p = ap (put_in into) e ∙ l in (ap (λ (z : Step). z.answer) p, ap (λ (z : Step). z.state) p)

-- next
abbrev pub next-parts : Stream → Stream
next-parts h = state_of h.start h.end 0 0 h.messages h.error

abbrev pub next-into : Stream → Step → Stream
next-into h r = state_of r.state.start h.end h.bytes_read h.read_calls r.state.messages r.state.error

next-by : (h : Stream) (w : Window) → put_in (next-into h) (next_by (next-parts h) w) ≡ next_by h w
next-by h (Ok (m, n)) = across (put_in (next-into h)) (eqb h.messages 18446744073709551615) refl refl
next-by h (Err Short) = refl
next-by h (Err (Refused r)) = across (put_in (next-into h)) h.error refl refl

next-apart : (rd : Reading) (h : Stream) (b : List ℕ) → put_in (next-into h) (next_of rd (next-parts h) b) ≡ next_of rd h b
unfolding next_of
next-apart rd h b =
    let f = put_in (next-into h) in
    across f (eqb (length b) 8192) (across f (leb h.start h.end) (across f (leb h.end 8192) (next-by h (window_of rd (window_at h b))) refl) refl) refl

pub next-back : (rd : Reading) (h : Stream) (b : List ℕ) (r : Step) → r ≡ next_of rd (next-parts h) b
    → (r.answer ≡ (next_of rd h b).answer) × (next-into h r ≡ (next_of rd h b).state)
next-back rd h b r e = stored (next-into h) e (next-apart rd h b)

-- make room
abbrev pub room-parts : Stream → Stream
room-parts h = state_of h.start h.end 0 h.read_calls 0 false

abbrev pub room-into : Stream → Step → Stream
room-into h r = state_of r.state.start r.state.end h.bytes_read r.state.read_calls h.messages h.error

room_apart : (h : Stream) (len : ℕ) → put_in (room-into h) (room_of (room-parts h) len) ≡ room_of h len
unfolding room_of
room_apart h len =
    let f = put_in (room-into h) in
    across f (eqb len 8192) (across f (leb h.start h.end) (across f (leb h.end 8192)
    (across f (leb 52 (h.end - h.start)) refl (across f (eqb h.read_calls 18446744073709551615) refl (across f (eqb h.end 8192) refl refl))) refl) refl) refl

pub room_back : (h : Stream) (b : List ℕ) (r : Step) (c : List ℕ) → (r ≡ room_of (room-parts h) (length b)) × (c ≡ room_buffer (room-parts h) b)
    → (r.answer ≡ (room_of h (length b)).answer) × ((room-into h r ≡ (room_of h (length b)).state) × (c ≡ room_buffer h b))
unfolding room_buffer
room_back h b r c e = let p = stored (room-into h) e.0 (room_apart h (length b)) in (p.0, (p.1, e.1))

-- told how many bytes came
abbrev pub told-parts : Stream → Stream
told-parts h = state_of h.start h.end h.bytes_read 0 0 h.error

abbrev pub told-into : Stream → Step → Stream
told-into h r = state_of h.start r.state.end r.state.bytes_read h.read_calls h.messages r.state.error

told-apart : (h : Stream) (n : ℕ) → put_in (told-into h) (told_of (told-parts h) n) ≡ told_of h n
unfolding told_of
told-apart h n =
    let f = put_in (told-into h) in
    across f (leb h.start h.end) (across f (leb h.end 8192) (across f (leb n (8192 - h.end)) (across f (leb n (18446744073709551615 - h.bytes_read))
    (across f (ltb 0 n) refl (across f (eqb h.start h.end) refl (across f h.error refl refl))) refl) refl) refl) refl

pub told_back : (h : Stream) (n : ℕ) (r : Step) → r ≡ told_of (told-parts h) n → (r.answer ≡ (told_of h n).answer) × (told-into h r ≡ (told_of h n).state)
told_back h n r e = stored (told-into h) e (told-apart h n)

-- told that the read failed
abbrev pub failed-parts : Stream → Stream
failed-parts h = state_of h.start h.end 0 0 0 h.error

abbrev pub failed-into : Stream → Step → Stream
failed-into h r = state_of h.start h.end h.bytes_read h.read_calls h.messages r.state.error

failed-apart : (h : Stream) → put_in (failed-into h) (failed_of (failed-parts h)) ≡ failed_of h
unfolding failed_of
failed-apart h =
    let f = put_in (failed-into h) in
    across f (leb h.start h.end) (across f (leb h.end 8192) (across f h.error refl refl) refl) refl

pub failed-back : (h : Stream) (r : Step) → r ≡ failed_of (failed-parts h) → (r.answer ≡ (failed_of h).answer) × (failed-into h r ≡ (failed_of h).state)
failed-back h r e = stored (failed-into h) e (failed-apart h)
