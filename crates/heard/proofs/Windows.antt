-- What the calls and the reads do to the window: a message's bytes leave it, room made leaves it as it was, and the bytes that came stand behind it.
-- Assumes nothing.
use Prim.Native.Nat.{ℕ, ◌+◌, ◌-◌, ◌≤◌}
use mathlib.Core.Path.{◌≡◌, refl, sym, ap, ◌∙◌}
use mathlib.Core.List.{List, ◌++◌}
use native.Mathlib.Nat.{sub-zero}
use native.Mathlib.Omega.{arith}
use lib.ListN.{length, take, drop, length-append, length-take, length-drop}
use lib.Seq.{length-take-le, take-add, take-append-le, drop-append-le, drop_at, drop-drop}
use Rattle.stream.specs.declared.Stream.{Stream}
use Rattle.stream.specs.declared.Step.{Step}
use Rattle.stream.specs.declared.Answer.TheVariants.{Ready}
use Rattle.stream.specs.Next.{window_at}
use Rattle.stream.specs.Room.{room_of, room_buffer}
use Rattle.stream.proofs.Rooms.{at-end, before-end}
use Rattle.stream_laws.specs.Runs.{Sound}
use Rattle.stream_laws.proofs.Steps.{Made, front, there}
use Rattle.stream_laws.proofs.Calls.{room-made}

-- a part from i on, of n bytes
part : (b : List ℕ) (i n : ℕ) → i ≤ length b → take n (drop i b) ≡ drop i (take (i + n) b)
part b i n h = sym (ap (drop i) (take-add i n b) ∙ drop_at (take i b) (take n (drop i b)) i (length-take-le i b h))

pub length-window : (s : Stream) (b : List ℕ) → Sound s → length b ≡ 8192 → length (window_at s b) ≡ s.end - s.start
length-window s b h l = simp (length-take, length-drop) (omega (arith, h.ordered, h.inside))

-- n bytes leave the window's front
pub window-taken : (b : List ℕ) (i e n : ℕ) → n ≤ e - i → e ≤ length b → take (e - (i + n)) (drop (i + n) b) ≡ drop n (take (e - i) (drop i b))
window-taken b i e n h l =
    let k : e - i ≡ n + (e - (i + n)) = omega arith in
    ap (take (e - (i + n))) (sym (drop-drop n i b))
    ∙ part (drop i b) n (e - (i + n)) (simp length-drop (omega arith))
    ∙ ap (λ (j : ℕ). drop n (take j (drop i b))) (sym k)

-- bytes p that were put behind it
pub window-put : (b c p : List ℕ) (i e n : ℕ) → i ≤ e → e ≤ length b → length c ≡ length b → take (e + n) c ≡ take e b ++ p
    → take (e + n - i) (drop i c) ≡ take (e - i) (drop i b) ++ p
window-put b c p i e n h l d w =
    let j : i + (e + n - i) ≡ e + n = omega arith in
    let k : i + (e - i) ≡ e = omega arith in
    part c i (e + n - i) (omega arith)
    ∙ ap (λ (j : ℕ). drop i (take j c)) j
    ∙ ap (drop i) w
    ∙ drop-append-le i (take e b) p (omega (arith, length-take-le e b l))
    ∙ ap (λ (x : List ℕ). x ++ p) (ap (λ (j : ℕ). drop i (take j b)) (sym k) ∙ sym (part b i (e - i) (omega arith)))

-- room made: the buffer, as long as before, and the window in it
pub record Same (s : Stream) (b : List ℕ) (t : Stream) (c : List ℕ) : Type 0 where
  pub long : length c ≡ 8192
  pub window : window_at t c ≡ window_at s b
  pub error : t.error ≡ s.error

room-step : (s : Stream) (b : List ℕ) (x : Step) → Made s (length b) x → Same s b x.state (room_buffer s b)
room-step s b _ (front p a) =
    rw (at-end s b p a).1 (record {
      long = simp (length-append, length-drop) (omega (arith, p.ordered, p.inside, p.whole));
      window =
          rw sub-zero
          (take-append-le (s.end - s.start) (drop s.start b) (drop (length b - s.start) b)
          (simp length-drop (omega (arith, p.ordered, p.inside, p.whole))));
      error = refl;
    })
room-step s b _ (there p a) = rw (before-end s b p (λ z. omega arith)).1 (record { long = p.whole; window = refl; error = refl })

pub room-same : (s : Stream) (b : List ℕ) → (room_of s (length b)).answer ≡ Ready → Same s b (room_of s (length b)).state (room_buffer s b)
room-same s b e = room-step s b (room_of s (length b)) (room-made s (length b) e)
