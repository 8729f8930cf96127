-- The loop's turns as a run over an input, of which each read shows some more: what has come, whatever comes behind it.
-- Assumes nothing.
use Prim.Native.Nat.{ℕ, ◌-◌, ◌≤◌, ◌<◌, min}
use mathlib.Core.Path.{◌≡◌, refl, sym, ap, subst, ◌∙◌}
use mathlib.Core.Bool.{true, false}
use mathlib.Core.List.{List, [], ◌∷◌, ◌++◌, append-nil, append_assoc}
use mathlib.Core.Logic.{◌⊎◌, inl, inr, ⊎_elim}
use native.Mathlib.Omega.{arith}
use lib.ListN.{length, take, drop, length-append, length-drop}
use lib.Seq.{length-take-le, take-add, take_at, take_all, drop_at}
use Rattle.standard.specs.declared.Brought.{Brought}
use Rattle.standard.specs.Reads.{Silent, bytes_of, has_failed}
use Rattle.standard.proofs.Failed.{failed-none}
use Rattle.format.specs.declared.Reading.{Reading}
use Rattle.records.specs.declared.Message.{Message as Record}
use Rattle.laws.proofs.Numbers.{number-low}
use Rattle.stream.specs.declared.Stream.{Stream}
use Rattle.stream.specs.declared.Step.{Step}
use Rattle.stream.specs.declared.Answer.{Answer}
use Rattle.stream.specs.declared.Answer.TheVariants.{Wants, Ready, Refused}
use Rattle.stream.specs.State.{fresh_state, marks}
use Rattle.stream.specs.Next.{window_at, next_of}
use Rattle.stream.specs.Room.{room_buffer}
use Rattle.stream.specs.Told.{told_of, failed_of}
use Rattle.stream_laws.specs.Ends.{stops}
use Rattle.stream_laws.specs.Runs.{Sound}
use Rattle.stream_laws.proofs.Steps.{31-next, 30-next, 33-next, Next, no-next, message, wants, marked_next, next-is, 31-room, 30-room, 34-room, 33-room, front, there, Room, no_room, made, room-is, 30-told, 32-told, 33-told, Told, no-told, came, nothing, marked-told, told_is, Failed, 30-failed, marked-failed, failed-is}
use Rattle.stream_laws.proofs.Calls.{stops-not, marks-stops, next-waits, room-ready, told-came, failed-stops}
use Rattle.stream_laws.proofs.Reads52.{short}
use Rattle.heard.specs.Heard.{before, ends, stop_at, heard_of}
use Rattle.heard.specs.Runs.{Cutting, Read, roomed, Run, fresh, message as a-message, read, Stopped, by-told}
use Rattle.heard.proofs.Inputs.{heard-cut, heard-bad}
use Rattle.heard.proofs.Windows.{room-same}
use Rattle.heard.proofs.Holds.{Holds, roomed-holds, holds}
use Rattle.heard.proofs.Ended.{ended as heard-ended}
use Rattle.feeding.specs.declared.Turn.{Turn}
use Rattle.feeding.specs.Turns.{Came, Fed}
use Rattle.feeding.proofs.Turns.{ready-or, tell-case, turned}
use Rattle.tallying.specs.Counts.{raised, Taken, none, more, Drained}
use Rattle.tallying.specs.Reads.{counts_of, Ends, judged, ended, failed, full, Tallied}
use Rattle.tallying.proofs.Counting.{counters-on, drained-stops}

abbrev Any : Cutting
Any room r n = Unit

-- from counters c₀ on: what came, the messages of it that are counted, and the run, whatever comes behind
pub record Going (rd : Reading) (c₀ : List ℕ) (s : Stream) (v : Brought) (b : List ℕ) (c : List ℕ) : Type 0 where
  pub came : List ℕ
  pub total : v.total ≡ min (length came) 18446744073709551615
  pub messages : List Record
  pub run : (rest : List ℕ) → Run rd Any (came ++ rest) s b rest messages
  pub counts : c ≡ counts_of c₀ messages

pub going_start : (rd : Reading) (c₀ : List ℕ) (v : Brought) (b : List ℕ) → v.total ≡ 0 → length b ≡ 8192 → Going rd c₀ fresh_state v b c₀
going_start rd c₀ v b z l = record { came = []; total = z; messages = []; run = λ rest. fresh l; counts = refl }

counts-one : (c : List ℕ) (ms : List Record) (m : Record) → counts_of c (ms ++ (m ∷ [])) ≡ raised (counts_of c ms) m
counts-one c [] m = refl
counts-one c (x ∷ ms) m = counts-one (raised c x) ms m

-- messages taken
pub going-taken : {rd : Reading} {c₀ : List ℕ} {s : Stream} {v : Brought} {b c : List ℕ} {t : Stream} {d : List ℕ} → Going rd c₀ s v b c
    → Taken rd b s c t d → Going rd c₀ t v b d
going-taken g none = g
going-taken {c₀ = c₀} g (more p m e) =
    let h = going-taken g p in
    record {
      came = h.came;
      total = h.total;
      messages = h.messages ++ (m ∷ []);
      run = λ rest. a-message (h.run rest) m e;
      counts = ap (λ (x : List ℕ). raised x m) h.counts ∙ sym (counts-one c₀ h.messages m);
    }

-- ---- a read

-- the bytes that stand from e on, n of them
abbrev stood : ℕ → ℕ → List ℕ → List ℕ
stood e n c = take n (drop e c)

long-stood : (e n : ℕ) (b c : List ℕ) → n ≤ length b - e → length c ≡ length b → length (stood e n c) ≡ n
long-stood e n b c h l = length-take-le n (drop e c) (simp length-drop (omega arith))

abbrev reads : (e n : ℕ) (b c r : List ℕ) → n ≤ length b - e → length c ≡ length b → take e c ≡ take e b → take n r ≡ stood e n c → n ≤ length r
    → (n ≡ 0 → r ≡ []) → Read Any e b r
reads e n b c r h l f t k z = record {
  brings = record { count = n; fits = h; left = k; some = z; allowed = tt };
  buffer = c;
  long = l;
  put = take-add e n c ∙ ap (λ (x : List ℕ). x ++ stood e n c) f ∙ ap (λ (x : List ℕ). take e b ++ x) (sym t);
}

-- where the mark is clear, a refusal is told
clear-marks : (s : Stream) (n p : ℕ) → s.error ≡ false → (marks s n p).answer ≡ Refused n p
clear-marks s n p e = rw e

-- the messages so far are all, and a is the stop
last : (rd : Reading) (input : List ℕ) (ms : List Record) (v : List ℕ) (a : Answer) → heard_of rd input ≡ before ms (heard_of rd (v ++ [])) → heard_of rd v ≡ ends a
    → heard_of rd input ≡ record { messages = ms; stop = a }
last rd input ms v a e f =
    e ∙ ap (λ (y : List ℕ). before ms (heard_of rd y)) (append-nil v)
    ∙ ap (before ms) f
    ∙ ap (λ (y : List Record). record { messages = y; stop = a }) (append-nil ms)

-- ---- next stops

next-ends : (rd : Reading) (input : List ℕ) (s : Stream) (b : List ℕ) (ms : List Record) (v : Brought) (x : Step) → Next rd s b x → stops x.answer ≡ true
    → Holds rd input 0 s b [] ms → Ends rd input ms x.answer v
unfolding stops
next-ends rd input s b ms v _ (no-next (31-next f)) e q = absurd (f q.whole)
next-ends rd input s b ms v _ (no-next (30-next f)) e q = absurd (f q.sound)
next-ends rd input s b ms v _ (no-next (33-next f)) e q = full _ (λ l. omega (arith, q.counted, q.bytes)) q.heard
next-ends rd input s b ms v _ (message h l m n w f) e q = let z : ◌≡◌ {A = ℕ} 0 1 = cc in absurd (omega arith)
next-ends rd input s b ms v _ (wants h l w) e q = let z : ◌≡◌ {A = ℕ} 0 1 = cc in absurd (omega arith)
next-ends rd input s b ms v _ (marked_next h l n p w) e q =
    let k = number-low rd (window_at s b) n p w in
    rw (clear-marks s n p q.clear)
    (judged k.0 k.1 (last rd input ms (window_at s b) (Refused n p) q.heard (heard-bad rd (window_at s b) n p w)))

-- ---- room is refused

room-ends : (rd : Reading) (input : List ℕ) (s : Stream) (b : List ℕ) (ms : List Record) (v : Brought) (x : Step) → Room s (length b) x → (x.answer ≡ Ready → ⊥)
    → s.end - s.start ≤ 51 → Holds rd input 0 s b [] ms → Ends rd input ms x.answer v
room-ends rd input s b ms v _ (no_room (31-room f)) e g q = absurd (f q.whole)
room-ends rd input s b ms v _ (no_room (30-room f)) e g q = absurd (f q.sound)
room-ends rd input s b ms v _ (no_room (34-room f)) e g q = absurd (omega arith)
room-ends rd input s b ms v _ (no_room (33-room f)) e g q = full _ (λ l. omega (arith, q.calls, q.bytes)) q.heard
room-ends rd input s b ms v _ (made (front p a)) e g q = absurd (e refl)
room-ends rd input s b ms v _ (made (there p a)) e g q = absurd (e refl)

-- ---- the read fails

fails : (s : Stream) (x : Step) → Failed s x → Sound s → s.error ≡ false → x.answer ≡ Refused 11 0
fails s _ (30-failed f) h c = absurd (f h)
fails s _ (marked-failed h) _ c = clear-marks s 11 0 c

-- ---- told stops: nothing came, or the bytes can no more be counted

told-stops : (s : Stream) (n : ℕ) (x : Step) → Told s n x → (x.answer ≡ Ready → ⊥) → Sound s → n ≤ 8192 - s.end
    → (n ≡ 0) ⊎ ((x.answer ≡ Refused 33 0) × (18446744073709551615 - s.bytes_read < n))
told-stops s n _ (no-told (30-told f)) e h k = absurd (f h)
told-stops s n _ (no-told (32-told f)) e h k = absurd (omega arith)
told-stops s n _ (no-told (33-told f)) e h k = inr (refl, f)
told-stops s n _ (came _ _ _ _) e h k = absurd (e refl)
told-stops s n _ (nothing _ z _) e h k = inl z
told-stops s n _ (marked-told _ z _) e h k = inl z

told-halts : (s : Stream) (n : ℕ) (x : Step) → Told s n x → (x.answer ≡ Ready → ⊥) → stops x.answer ≡ true
unfolding stops
told-halts s n _ (no-told _) e = refl
told-halts s n _ (came _ _ _ _) e = absurd (e refl)
told-halts s n _ (nothing _ z _) e = refl
told-halts s n _ (marked-told _ z _) e = marks-stops s 10 0

module _ {rd : Reading} {c₀ : List ℕ} {s : Stream} {v : Brought} {b d : List ℕ} (g : Going rd c₀ s v b d) where
  -- what came is all that comes
  at-end : Run rd Any g.came s b [] g.messages
  at-end = subst (λ (y : List ℕ). Run rd Any y s b [] g.messages) (append-nil g.came) (g.run [])

  pub next-ended : stops (next_of rd s b).answer ≡ true → Ends rd g.came g.messages (next_of rd s b).answer v
  next-ended h = next-ends rd g.came s b g.messages v (next_of rd s b) (next-is rd s b) h (holds at-end)

  module _ (w : (next_of rd s b).answer ≡ Wants) where
    abbrev t : Stream
    t = (next_of rd s b).state

    pub room-ended : ((roomed rd s b).answer ≡ Ready → ⊥) → Ends rd g.came g.messages (roomed rd s b).answer v
    room-ended f =
        let k = (next-waits rd s b w).kept in
        room-ends rd g.came t b g.messages v (roomed rd s b) (room-is t (length b)) f (rw k (short rd s b w)) (rw k (holds at-end))

    module _ (x : Turn) (c : List ℕ) (long : length c ≡ length b) (a : (roomed rd s b).answer ≡ Ready) (C : Came t v b x c) where
      abbrev u : Stream
      u = (roomed rd s b).state

      abbrev n : ℕ
      n = bytes_of x.brought

      abbrev p : List ℕ
      p = stood u.end n c

      abbrev B : List ℕ
      B = room_buffer t b

      long' : length c ≡ length B
      long' = omega (arith, long, (room-same t b a).long, (room-ready t (length b) a).whole)

      fits : n ≤ length B - u.end
      fits = omega (arith, C.reads.fits, (room-same t b a).long, (room-ready t (length b) a).whole)

      long-p : length p ≡ n
      long-p = long-stood u.end n B c fits long'

      -- the free part is never empty
      silent : n ≡ 0 → Silent x.brought
      silent z = record { asked = omega (arith, C.reads.room, (room-ready t (length b) a).whole, (room-ready t (length b) a).free); none = z }

      pub fail-ended : has_failed x.brought ≡ true → x.step ≡ failed_of u → Ends rd g.came g.messages x.step.answer x.brought
      fail-ended f e =
          let q = roomed-holds rd g.came s b [] g.messages w a (holds at-end) in
          rw (ap (λ (y : Step). y.answer) e ∙ fails u (failed_of u) (failed-is u) q.sound q.clear)
          (failed (window_at s b) (silent (failed-none x.brought f)) f
          (last rd g.came g.messages (window_at s b) (stop_at (window_at s b)) (holds at-end).heard (heard-cut rd (window_at s b) (next-waits rd s b w).short)))

      -- the bytes counted
      pub total-fed : x.brought.total ≡ min (length (g.came ++ p)) 18446744073709551615
      total-fed = omega (arith, C.reads.total, g.total, length-append g.came p, long-p)

      pub total-failed : has_failed x.brought ≡ true → x.brought.total ≡ min (length g.came) 18446744073709551615
      total-failed f = omega (arith, C.reads.total, failed-none x.brought f, g.total)

      -- bytes came
      pub going-fed : x.step ≡ told_of u n → x.step.answer ≡ Ready → Going rd c₀ x.step.state x.brought c d
      going-fed e r =
          let h : (told_of u n).answer ≡ Ready = ap (λ (y : Step). y.answer) (sym e) ∙ r in
          let o = (told-came u n h).some in
          record {
            came = g.came ++ p;
            total = total-fed;
            messages = g.messages;
            run = λ rest.
                let q = reads u.end n B c (p ++ rest) fits long' C.front (take_at p rest n long-p) (omega (arith, length-append p rest, long-p)) (λ z. absurd (omega arith)) in
                rw (append_assoc g.came p rest, e)
                (subst (λ (y : List ℕ). Run rd Any (g.came ++ (p ++ rest)) (told_of u n).state c y g.messages) (drop_at p rest n long-p)
                (read (g.run (p ++ rest)) w a q h));
            counts = g.counts;
          }

      empty : (l : List ℕ) → length l ≡ 0 → l ≡ []
      empty [] h = refl
      empty (y ∷ l) h = absurd (omega arith)

      -- or they did not
      pub told-ended : has_failed x.brought ≡ false → x.step ≡ told_of u n → (x.step.answer ≡ Ready → ⊥)
          → Ends rd (g.came ++ p) g.messages x.step.answer x.brought
      told-ended f e r =
          let q = roomed-holds rd (g.came ++ p) s b p g.messages w a (holds (g.run p)) in
          let h : (told_of u n).answer ≡ Ready → ⊥ = λ y. r (ap (λ (z : Step). z.answer) e ∙ y) in
          let y = reads u.end n B c p fits long' C.front (take_all n p (omega (arith, long-p))) (omega (arith, long-p)) (λ z. empty p (omega (arith, long-p))) in
          let m : Stopped rd Any (g.came ++ p) g.messages (told_of u n).answer = by-told (g.run p) w a y (told-halts u n (told_of u n) (told_is u n) h) in
          rw (ap (λ (z : Step). z.answer) e)
          (⊎_elim
          (λ z. ⊎_elim (λ i. ended (silent z) f i) (λ i. rw i.0 (full _ i.1 q.heard)) (heard-ended m))
          (λ z. rw z.0 (full _ (λ l. omega (arith, z.1, q.bytes, long-p)) q.heard))
          (told-stops u n (told_of u n) (told_is u n) h q.sound (omega (arith, fits, q.whole))))

-- ---- the loop of run

ready-goes : stops Ready ≡ false
unfolding stops
ready-goes = refl

module _ {rd : Reading} {c₀ : List ℕ} {s : Stream} {v : Brought} {b c : List ℕ} {r : Step} {d : List ℕ} (g : Going rd c₀ s v b c) (D : Drained rd b s c r d) where
  drained : Going rd c₀ D.last v b d
  drained = going-taken g D.taken

  answers : r.answer ≡ (next_of rd D.last b).answer
  answers = ap (λ (y : Step). y.answer) D.step

  -- the window's messages, and an answer that stops
  pub tallied-next : (r.answer ≡ Wants → ⊥) → Tallied rd c₀ (record { step = r; brought = v }) d
  tallied-next f = record {
    came = drained.came;
    total = drained.total;
    messages = drained.messages;
    ends =
        subst (λ (y : Answer). Ends rd drained.came drained.messages y v) (sym answers)
        (next-ended drained (ap stops (sym answers) ∙ drained-stops D f));
    counts = drained.counts;
    counted = D.counted;
  }

  module _ (w : r.answer ≡ Wants) (x : Turn) (e : List ℕ) (R : Fed r.state v b x e) where
    wants' : (next_of rd D.last b).answer ≡ Wants
    wants' = sym answers ∙ w

    R' : Fed (next_of rd D.last b).state v b x e
    R' = subst (λ (y : Step). Fed y.state v b x e) D.step R

    -- bytes came
    pub going_on : x.step.answer ≡ Ready → Going rd c₀ x.step.state x.brought e d
    going_on y =
        ⊎_elim
        (λ a.
        let C = R'.came a in
        tell-case (roomed rd D.last b).state x.brought
        (λ _ i. absurd (stops-not (ap (λ (q : Step). stops q.answer) (C.step ∙ i) ∙ (failed-stops (roomed rd D.last b).state).1) ready-goes y))
        (λ _ i. going-fed drained wants' x e R'.long a C (C.step ∙ i) y))
        (λ f. absurd (f (ap (λ (q : Step). q.answer) (sym (R'.no_room f).0) ∙ y)))
        (ready-or (next_of rd D.last b).state (length b))

    -- the run ends with this turn
    pub tallied-read : (x.step.answer ≡ Ready → ⊥) → Tallied rd c₀ x d
    tallied-read f =
        let k = counters-on D.counted (turned r.state v b x e R).messages in
        ⊎_elim
        (λ a.
        let C = R'.came a in
        tell-case (roomed rd D.last b).state x.brought
        (λ t i. record {
          came = drained.came;
          total = total-failed drained wants' x e R'.long a C t;
          messages = drained.messages;
          ends = fail-ended drained wants' x e R'.long a C t (C.step ∙ i);
          counts = drained.counts;
          counted = k;
        })
        (λ t i. record {
          came = _;
          total = total-fed drained wants' x e R'.long a C;
          messages = drained.messages;
          ends = told-ended drained wants' x e R'.long a C t (C.step ∙ i) f;
          counts = drained.counts;
          counted = k;
        }))
        (λ n. record {
          came = drained.came;
          total = ap (λ (q : Brought). q.total) (R'.no_room n).1 ∙ drained.total;
          messages = drained.messages;
          ends = rw (ap (λ (q : Step). q.answer) (R'.no_room n).0, (R'.no_room n).1) (room-ended drained wants' n);
          counts = drained.counts;
          counted = k;
        })
        (ready-or (next_of rd D.last b).state (length b))
