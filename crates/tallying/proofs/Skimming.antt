-- A plain message in front is the one that next answers; and what was skimmed goes on from what was taken before.
-- Assumes nothing.
use Prim.Native.Nat.{ℕ, ◌+◌, ◌-◌, ◌≤◌, ◌<◌}
use mathlib.Core.Path.{◌≡◌, refl, sym, subst}
use mathlib.Core.Bool.{false}
use mathlib.Core.List.{List}
use mathlib.Core.Logic.{⊎_elim}
use native.Mathlib.Omega.{arith}
use borrow.Author.Tests.{le-leb, eq-eqb, ne_eqb}
use lib.Dec.{eqb}
use lib.ListN.{length, get_or, set, take, drop, length-take, get_or-eq_default}
use lib.Seq.{get_or-drop}
use Rattle.std.proofs.lemmas.List.{get_or-take}
use Rattle.format.proofs.Tests.{le-or-lt}
use Rattle.std.specs.Prelude.{Ok}
use Rattle.format.specs.declared.Reading.{Reading}
use Rattle.format.proofs.Bytes.{Bytes}
use Rattle.records.specs.declared.Message.{Message as Record}
use Rattle.reader.specs.Window.{window_of}
use Rattle.plain.specs.Plain.{Table, plain_of, strictly_of}
use Rattle.plain.proofs.Accepts.{Front, plain-accepts, strictly-accepts}
use Rattle.stream.specs.declared.Step.{Step}
use Rattle.stream.specs.declared.Answer.TheVariants.{Message}
use Rattle.stream.specs.declared.Stream.{Stream}
use Rattle.stream.specs.Next.{window_at, taken, next_of}
use Rattle.stream_laws.proofs.Calls.{next-message}
use Rattle.tallying.specs.Counts.{Counters, raised, Taken, none, more, Counted, Skimmed, on_to, Tightly}
use Rattle.tallying.proofs.Counting.{rises, raises, taken-one, again}

-- the window that both skims look at
abbrev pub window_in : List ℕ → ℕ → ℕ → List ℕ
window_in b start end = take (end - start) (drop start b)

pub window-bytes : (b : List ℕ) (start end : ℕ) → Bytes b → Bytes (window_in b start end)
window-bytes b start end h i = ⊎_elim past inside (le-or-lt (end - start) i)
  where
    past : end - start ≤ i → get_or (window_in b start end) i 0 < 256
    past l =
        let e : get_or (window_in b start end) i 0 ≡ 0 = get_or-eq_default (window_in b start end) 0 (let o : length (take (end - start) (drop start b)) ≤ i = simp length-take (omega arith) in o) in
        omega (arith, e)

    inside : i < end - start → get_or (window_in b start end) i 0 < 256
    inside l = rw (get_or-take (end - start) (drop start b) i 0 l, get_or-drop start b i 0) (h (start + i))

-- where a message may be taken
pub record Ready (b : List ℕ) (start end messages : ℕ) : Type 0 where
  pub whole : length b ≡ 8192
  pub ordered : start ≤ end
  pub inside : end ≤ 8192
  pub bytes : Bytes (window_in b start end)
  pub room : messages < 18446744073709551615

-- the state behind n bytes more
abbrev behind : Stream → ℕ → Stream
behind s n = record {
  start = s.start + n;
  end = s.end;
  bytes_read = s.bytes_read;
  read_calls = s.read_calls;
  messages = s.messages + 1;
  error = false;
}

accepted-next : (rd : Reading) (s : Stream) (b : List ℕ) (m : Record) (n : ℕ) → Ready b s.start s.end s.messages
    → window_of rd (window_at s b) ≡ Ok (m, n) → next_of rd s b ≡ taken s m n
unfolding next_of
accepted-next rd s b m n h e =
    simp (eq-eqb _ _ h.whole, le-leb _ _ h.ordered, le-leb _ _ h.inside, e, ne_eqb s.messages 18446744073709551615 (λ i. omega (arith, h.room)))

-- a message in front is taken, and counted under its tag
abbrev counts-at : List ℕ → ℕ → List ℕ
counts-at c k = set c k (get_or c k 0 + 1)

front-taken : {rd : Reading} {b : List ℕ} {s₀ : Stream} {c₀ : List ℕ} {s : Stream} {c : List ℕ} {n : ℕ} → Taken rd b s₀ c₀ s c
    → Ready b s.start s.end s.messages → Front rd (window_at s b) n → Taken rd b s₀ c₀ (behind s n) (counts-at c (get_or (window_at s b) 2 0))
front-taken {rd} {b} {s = s} {n = n} p h f =
    rw (← f.tag) (taken-one {r = taken s f.message n} p (sym (accepted-next rd s b f.message n h f.accepted)) refl)

-- so a plain one, under every reading that has the table
pub skims : {rows b : List ℕ} {s₀ : Stream} {c₀ : List ℕ} {s : Stream} {c : List ℕ} {n : ℕ} → Skimmed rows b s₀ c₀ s c
    → Ready b s.start s.end s.messages → n ≡ plain_of (window_at s b) rows → (n ≡ 0 → ⊥)
    → Skimmed rows b s₀ c₀ (behind s n) (counts-at c (get_or (window_at s b) 2 0))
skims {rows} {b} {s = s} {c = c} {n = n} p h e z = record {
  taken = λ rd t. front-taken (p.taken rd t) h (plain-accepts rd (window_at s b) rows n h.bytes t (sym e) (omega (arith, z)));
  counted = raises c (get_or (window_at s b) 2 0) s.messages p.counted (h.bytes 2);
}

-- messages taken behind messages taken
joined : {rd : Reading} {b : List ℕ} {s : Stream} {c : List ℕ} {t : Stream} {d : List ℕ} {u : Stream} {e : List ℕ} → Taken rd b s c t d
    → Taken rd b t d u e → Taken rd b s c u e
joined p none = p
joined p (more q m e) = more (joined p q) m e

rising : {rd : Reading} {b : List ℕ} {s : Stream} {c : List ℕ} {t : Stream} {d : List ℕ} → Taken rd b s c t d → s.messages ≤ t.messages
rising none = omega arith
rising {rd = rd} {b = b} (more {t = t} p m e) = omega (arith, rising p, (next-message rd t b m e).messages)

-- nothing taken yet
on_none : (s : Stream) {start messages : ℕ} → s.start ≡ start → s.messages ≡ messages → on_to s start messages ≡ s
on_none s e f = rw (← e, ← f, eq-eqb s.messages s.messages refl)

pub tightly-none : {b : List ℕ} {start end messages : ℕ} {c : List ℕ} → Counters c messages → Tightly b start end messages c start messages c
tightly-none {b} {c = c} k = record {
  taken = λ s e _ f rd. subst (λ (x : Stream). Taken rd b s c x c) (sym (on_none s e f)) none;
  counted = k;
}

-- one that the strict test passes, under every reading
pub tightens : (rows : List ℕ) {b : List ℕ} {start₀ end messages₀ : ℕ} {c₀ : List ℕ} {start messages : ℕ} {c : List ℕ} {n : ℕ}
    → Tightly b start₀ end messages₀ c₀ start messages c → Ready b start end messages → Table false rows → n ≡ strictly_of (window_in b start end) rows
    → (n ≡ 0 → ⊥) → Tightly b start₀ end messages₀ c₀ (start + n) (messages + 1) (counts-at c (get_or (window_in b start end) 2 0))
tightens rows {b} {start₀} {end} {messages₀} {c₀} {start} {messages} {c} {n} p h t e z = record {
  taken = λ s i j k rd.
      let q = p.taken s i j k rd in
      let f = strictly-accepts rd (window_in b start end) rows n h.bytes t (sym e) (omega (arith, z)) in
      let l : eqb (messages + 1) s.messages ≡ false = ne_eqb (messages + 1) s.messages (λ m. omega (arith, rising q)) in
      rw l (rw (← j) (front-taken q (rw j h) (rw j f)));
  counted = raises c (get_or (window_in b start end) 2 0) messages p.counted (h.bytes 2);
}

-- what was taken goes on: behind a skim; behind the message after it, which raises the count; and behind a strict skim
pub onward : {rd : Reading} {rows b : List ℕ} {s : Stream} {c : List ℕ} {t : Stream} {d : List ℕ} {u : Stream} {e : List ℕ} → Counted rd b s c t d
    → Table rd.strict rows → Skimmed rows b t d u e → Counted rd b s c u e
onward {rd} p t q = record { taken = joined p.taken (q.taken rd t); counted = q.counted }

pub turned : {rd : Reading} {rows b : List ℕ} {s : Stream} {c : List ℕ} {t : Stream} {d : List ℕ} {u : Stream} {e : List ℕ} (r : Step) {m : Record}
    → Counted rd b s c t d → Table rd.strict rows → Skimmed rows b t d u e → r ≡ next_of rd u b → r.answer ≡ Message m → m.tag < 256
    → Counted rd b s c r.state (raised e m) × (t.messages < r.state.messages)
turned {rd} {b = b} {u = u} r {m} p t q n a h =
    (again (onward p t q) n a h, omega (arith, rising (q.taken rd t), rises rd b u r m n a))

pub tightly-on : {rd : Reading} {b : List ℕ} {s : Stream} {c : List ℕ} {t : Stream} {d : List ℕ} {start messages : ℕ} {u : Stream} {e : List ℕ}
    → Counted rd b s c t d → Tightly b t.start t.end t.messages d start messages e → u ≡ on_to t start messages → Counted rd b s c u e
tightly-on {rd} {t = t} p q i = rw i (record { taken = joined p.taken (q.taken t refl refl refl rd); counted = q.counted })

pub tightly-rise : (rd : Reading) {b : List ℕ} (t : Stream) {d : List ℕ} {start messages : ℕ} {u : Stream} {e : List ℕ}
    → Tightly b t.start t.end t.messages d start messages e → u ≡ on_to t start messages → t.messages ≤ u.messages
tightly-rise rd t q i = rw i (rising (q.taken t refl refl refl rd))

-- and behind all that was taken before
pub counted-on : {rd : Reading} {b : List ℕ} {s : Stream} {c : List ℕ} {t : Stream} {d : List ℕ} {u : Stream} {e : List ℕ} → Counted rd b s c t d
    → Counted rd b t d u e → Counted rd b s c u e
counted-on p q = record { taken = joined p.taken q.taken; counted = q.counted }
