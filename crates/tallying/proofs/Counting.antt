-- The counters and their sum.
-- Assumes nothing.
use Prim.Native.Nat.{ℕ, zero, suc, ◌+◌, ◌≤◌, ◌<◌}
use mathlib.Core.Path.{◌≡◌, refl, sym, ap, subst, ◌∙◌}
use mathlib.Core.Bool.{true}
use mathlib.Core.List.{List, [], ◌∷◌}
use native.Mathlib.Omega.{arith}
use lib.ListN.{length, get_or, set, length-set}
use Rattle.format.specs.declared.Reading.{Reading}
use Rattle.records.specs.declared.Message.{Message as Record}
use Rattle.stream.specs.declared.Stream.{Stream}
use Rattle.stream.specs.declared.Step.{Step}
use Rattle.stream.specs.declared.Answer.TheVariants.{Message, Wants}
use Rattle.stream.specs.Next.{next_of}
use Rattle.stream_laws.specs.Ends.{stops}
use Rattle.stream_laws.proofs.Calls.{next-message, next-other, next-stops}
use Rattle.tallying.specs.Counts.{sum, Counters, raised, Taken, more, none, Counted, Drained}

-- a counter raised by one raises the sum by one
sum-raised : (c : List ℕ) (k : ℕ) → k < length c → sum (set c k (get_or c k 0 + 1)) ≡ sum c + 1
unfolding sum
sum-raised [] k h = absurd (let b : ⊥ = omega arith in b)
sum-raised (x ∷ c) zero h = omega arith
sum-raised (x ∷ c) (suc k) h = let e = sum-raised c k (omega arith) in omega arith

-- no counter is above the sum
below-sum : (c : List ℕ) (k : ℕ) → get_or c k 0 ≤ sum c
unfolding sum
below-sum [] k = omega arith
below-sum (x ∷ c) zero = omega arith
below-sum (x ∷ c) (suc k) = let e = below-sum c k in omega arith

pub counter-below : {c : List ℕ} {n : ℕ} (k : ℕ) → Counters c n → get_or c k 0 ≤ n
counter-below {c} k p = omega (arith, below-sum c k, p.total)

-- a counter raised raises the count
pub raises : (c : List ℕ) (k n : ℕ) → Counters c n → k < 256 → Counters (set c k (get_or c k 0 + 1)) (n + 1)
raises c k n p h = record {
  all = length-set c k (get_or c k 0 + 1) ∙ p.all;
  total = sum-raised c k (omega (arith, p.all)) ∙ ap (λ (x : ℕ). x + 1) p.total;
}

-- a message raises the count
pub rises : (rd : Reading) (b : List ℕ) (s : Stream) (r : Step) (m : Record) → r ≡ next_of rd s b → r.answer ≡ Message m → r.state.messages ≡ s.messages + 1
rises rd b s r m e a =
    ap (λ (x : Step). x.state.messages) e
    ∙ (next-message rd s b m (ap (λ (x : Step). x.answer) (sym e) ∙ a)).messages

-- the state and the counters behind it
pub taken-one : {rd : Reading} {b : List ℕ} {s₀ : Stream} {c₀ : List ℕ} {s : Stream} {c : List ℕ} {r : Step} {m : Record} → Taken rd b s₀ c₀ s c
    → r ≡ next_of rd s b → r.answer ≡ Message m → Taken rd b s₀ c₀ r.state (raised c m)
taken-one {rd} {b} {s₀} {c₀} {s} {c} {r} {m} p e a =
    subst (λ (x : Step). Taken rd b s₀ c₀ x.state (raised c m)) (sym e) (more p m (ap (λ (x : Step). x.answer) (sym e) ∙ a))

pub again : {rd : Reading} {b : List ℕ} {s₀ : Stream} {c₀ : List ℕ} {s : Stream} {c : List ℕ} {r : Step} {m : Record} → Counted rd b s₀ c₀ s c → r ≡ next_of rd s b
    → r.answer ≡ Message m → m.tag < 256 → Counted rd b s₀ c₀ r.state (raised c m)
again {rd} {b} {s₀} {c₀} {s} {c} {r} {m} p e a h =
    record { taken = taken-one p.taken e a; counted = rw (rises rd b s r m e a) (raises c m.tag s.messages p.counted h) }

-- an answer that is no message leaves the count
pub counts : (rd : Reading) (b : List ℕ) (s : Stream) (c : List ℕ) (r : Step) → Counters c s.messages → r ≡ next_of rd s b
    → ((m : Record) → r.answer ≡ Message m → ⊥) → Counters c r.state.messages
counts rd b s c r k e f =
    let o = next-other rd s b (λ m a. f m (ap (λ (x : Step). x.answer) e ∙ a)) in
    rw (ap (λ (x : Step). x.state.messages) e ∙ o.messages) k

-- counters of a count that stayed
pub counters-on : {c : List ℕ} {n m : ℕ} → Counters c n → m ≡ n → Counters c m
counters-on k e = rw e k

-- ---- a drained window: no read, and an answer that wants bytes or stops

taken-calls : {rd : Reading} {b : List ℕ} {s : Stream} {c : List ℕ} {t : Stream} {d : List ℕ} → Taken rd b s c t d → t.read_calls ≡ s.read_calls
taken-calls none = refl
taken-calls {rd = rd} {b = b} (more {t = t} p m e) = (next-message rd t b m e).calls ∙ taken-calls p

no_more : {rd : Reading} {b : List ℕ} {s : Stream} {c : List ℕ} {r : Step} {d : List ℕ} (p : Drained rd b s c r d) → (m : Record)
    → (next_of rd p.last b).answer ≡ Message m → ⊥
no_more p m a = p.stops m (ap (λ (x : Step). x.answer) p.step ∙ a)

pub drained-calls : {rd : Reading} {b : List ℕ} {s : Stream} {c : List ℕ} {r : Step} {d : List ℕ} → Drained rd b s c r d → r.state.read_calls ≡ s.read_calls
drained-calls {rd = rd} {b = b} p =
    ap (λ (x : Step). x.state.read_calls) p.step
    ∙ (next-other rd p.last b (no_more p)).calls
    ∙ taken-calls p.taken

pub drained-stops : {rd : Reading} {b : List ℕ} {s : Stream} {c : List ℕ} {r : Step} {d : List ℕ} → Drained rd b s c r d → (r.answer ≡ Wants → ⊥)
    → stops r.answer ≡ true
drained-stops {rd = rd} {b = b} p f =
    ap (λ (x : Step). stops x.answer) p.step
    ∙ next-stops rd p.last b (no_more p) (λ a. f (ap (λ (x : Step). x.answer) p.step ∙ a))
