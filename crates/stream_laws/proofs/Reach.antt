-- Theorems of every state that the calls reach: it is sound; and its counts are what they say, below 2^64.
-- Assumes nothing.
use Prim.Native.Nat.{ℕ, ◌+◌, ◌≤◌}
use mathlib.Core.Path.{◌≡◌, refl, ap, ◌∙◌}
use mathlib.Core.List.{List}
use native.Mathlib.Omega.{arith}
use Rattle.format.specs.declared.Reading.{Reading}
use Rattle.records.specs.declared.Message.{Message as Record}
use Rattle.stream.specs.declared.Stream.{Stream}
use Rattle.stream.specs.declared.Answer.TheVariants.{Message, Ready}
use Rattle.stream.specs.Next.{next_of}
use Rattle.stream.specs.Room.{room_of}
use Rattle.stream.specs.Told.{told_of}
use Rattle.stream.proofs.Windows.{within}
use Rattle.stream_laws.specs.Runs.{Sound, Reached, fresh, message, other, room, no_room, told, not-told, failed}
use Rattle.stream_laws.proofs.Calls.{Kept, next-takes, next-other, room-ready, room-refused, told-came, told-kept, failed-stops}

pub kept-sound : {s t : Stream} → Kept s t → Sound s → Sound t
kept-sound k h = record { ordered = omega (arith, k.start, k.end, h.ordered); inside = omega (arith, k.end, h.inside) }

-- a count that is not at its end can rise
below : (k : ℕ) → k ≤ 18446744073709551615 → (k ≡ 18446744073709551615 → ⊥) → k + 1 ≤ 18446744073709551615
below k h f = omega (arith, h, f)

-- what is known of a state that was reached
pub record Known (s : Stream) (i j k : ℕ) : Type 0 where
  pub sound : Sound s
  pub bytes : s.bytes_read ≡ i
  pub calls : s.read_calls ≡ j
  pub messages : s.messages ≡ k
  pub bytes_fit : i ≤ 18446744073709551615
  pub calls-fit : j ≤ 18446744073709551615
  pub messages-fit : k ≤ 18446744073709551615

kept-known : {s t : Stream} {i j k : ℕ} → Kept s t → Known s i j k → Known t i j k
kept-known p q = record {
  sound = kept-sound p q.sound;
  bytes = p.bytes ∙ q.bytes;
  calls = p.calls ∙ q.calls;
  messages = p.messages ∙ q.messages;
  bytes_fit = q.bytes_fit;
  calls-fit = q.calls-fit;
  messages-fit = q.messages-fit;
}

taken-known : (rd : Reading) (s : Stream) (b : List ℕ) (m : Record) {i j k : ℕ} → (next_of rd s b).answer ≡ Message m → Known s i j k → Known (next_of rd s b).state i j (k + 1)
taken-known rd s b m {i} {j} {k} e q =
    let t = next-takes rd s b m e in
    let u = within rd s b m t.used t.accepts in
    rw t.step (record {
      sound = record { ordered = omega (arith, t.sound.ordered, u); inside = t.sound.inside };
      bytes = q.bytes;
      calls = q.calls;
      messages = ap (λ (n : ℕ). n + 1) q.messages;
      bytes_fit = q.bytes_fit;
      calls-fit = q.calls-fit;
      messages-fit = below k q.messages-fit (λ z. t.counts (q.messages ∙ z));
    })

roomy-known : (s : Stream) (len : ℕ) {i j k : ℕ} → (room_of s len).answer ≡ Ready → Known s i j k → Known (room_of s len).state i (j + 1) k
roomy-known s len {i} {j} {k} e q =
    let r = room-ready s len e in
    record {
      sound = record { ordered = r.ordered; inside = omega (arith, r.free) };
      bytes = r.bytes ∙ q.bytes;
      calls = r.calls ∙ ap (λ (n : ℕ). n + 1) q.calls;
      messages = r.messages ∙ q.messages;
      bytes_fit = q.bytes_fit;
      calls-fit = below j q.calls-fit (λ z. r.counts (q.calls ∙ z));
      messages-fit = q.messages-fit;
    }

fed-known : (s : Stream) (n : ℕ) {i j k : ℕ} → (told_of s n).answer ≡ Ready → Known s i j k → Known (told_of s n).state (i + n) j k
fed-known s n {i} {j} {k} e q =
    let t = told-came s n e in
    rw t.step (record {
      sound = record { ordered = omega (arith, t.sound.ordered); inside = omega (arith, t.sound.inside, t.fits) };
      bytes = ap (λ (m : ℕ). m + n) q.bytes;
      calls = q.calls;
      messages = q.messages;
      bytes_fit = omega (arith, q.bytes, q.bytes_fit, t.counts);
      calls-fit = q.calls-fit;
      messages-fit = q.messages-fit;
    })

-- so of every state that the calls reach
pub known : {s : Stream} {i j k : ℕ} → Reached s i j k → Known s i j k
known fresh = record {
  sound = record { ordered = omega arith; inside = omega arith };
  bytes = refl;
  calls = refl;
  messages = refl;
  bytes_fit = omega arith;
  calls-fit = omega arith;
  messages-fit = omega arith;
}
known (message {s = s} p rd b m e) = taken-known rd s b m e (known p)
known (other {s = s} p rd b f) = kept-known (next-other rd s b f) (known p)
known (room {s = s} p len e) = roomy-known s len e (known p)
known (no_room {s = s} p len f) = rw (room-refused s len f).0 (known p)
known (told {s = s} p n e) = fed-known s n e (known p)
known (not-told {s = s} p n f) = kept-known (told-kept s n f) (known p)
known (failed {s = s} p) = kept-known (failed-stops s).0 (known p)
