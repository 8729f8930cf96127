-- Playing a slice again and again, at any widths, gives the messages that the slice holds, in order, and its stop: each call is a part of a run of the
-- stream's calls over it.
-- Assumes nothing.
use Prim.Native.Nat.{ℕ, zero, suc, ◌+◌, ◌-◌, ◌≤◌, ◌<◌}
use mathlib.Core.Path.{◌≡◌, refl, sym, ap, subst, ◌∙◌}
use mathlib.Core.Bool.{true}
use mathlib.Core.List.{List, [], ◌∷◌, ◌++◌, append_assoc}
use native.Mathlib.Omega.{arith}
use borrow.Author.Tests.{le-leb, eq-eqb, ne_eqb}
use lib.ListN.{length, take, drop, length-append, length-drop, drop_of_length-le, replicate, length-replicate}
use lib.Seq.{paste, length-paste, take-paste, drop-drop}
use Rattle.format.specs.declared.Reading.{Reading}
use Rattle.records.specs.declared.Message.{Message as Record}
use Rattle.stream.specs.declared.Stream.{Stream}
use Rattle.stream.specs.declared.Answer.{Answer}
use Rattle.stream.specs.declared.Answer.TheVariants.{Message, Wants, Ready}
use Rattle.stream.specs.Next.{window_at, next_of}
use Rattle.stream_laws.specs.Ends.{stops}
use Rattle.stream_laws.proofs.Calls.{stops-not, room-ready, room-refused, told-heard}
use Rattle.heard.specs.Heard.{Heard, heard_of}
use Rattle.heard.specs.Runs.{Cutting, ReadAt, Run, fresh, message, read, Stopped, by_next, by-room, by-told, Fits}
use Rattle.heard.proofs.Windows.{room-same}
use Rattle.heard.proofs.Holds.{holds}
use Rattle.heard.proofs.Cuttings.{so_far, any-cutting}
use Rattle.play.specs.Play.{Out, halt, tries, try_of, play_of}
use Rattle.playing.specs.Plays.{Plays, fresh as first, message as another, PlayedOut, ended}
use Rattle.playing.proofs.Turns.{made, room, portion, put_in, fed, turn, onward, Final, told, stop, next-final}

-- reads of any sizes
abbrev any : Cutting
any _ r n = Unit {0}

module _ (rd : Reading) (src : List ℕ) where
  -- what a call comes to, in a run that has answered ms: one message more, or the run's end
  data Went (ms : List Record) (x : Out) : Type 0 where
    told-one : (m : Record) → x.played.answer ≡ Message m → x.played.at ≤ length src
        → Run rd any src x.played.state x.buffer (drop x.played.at src) (ms ++ (m ∷ [])) → Went ms x
    at-stop : stops x.played.answer ≡ true → Stopped rd any src ms x.played.answer → Went ms x

  module _ (w : ℕ) (wide : 0 < w) where
    -- a piece that goes into the room made is a read
    piece : (s : Stream) (b : List ℕ) (at : ℕ) → at ≤ length src → (next_of rd s b).answer ≡ Wants → (made rd src w s b at).answer ≡ Ready
        → ReadAt rd any s b (drop at src)
    piece s b at le e f =
        let c = room rd src w s b at in
        let end = (made rd src w s b at).state.end in
        let k = portion rd src w s b at in
        let r = drop at src in
        let free = (room-ready (next_of rd s b).state (length b) f).free in
        let long : length c ≡ 8192 = (room-same (next_of rd s b).state b f).long in
        let left : k ≤ length r = omega (arith, length-drop at src) in
        let same : put_in rd src w s b at ≡ paste c end r k =
        sym (append_assoc (take end c) (take k r) (drop k (drop end c))) ∙ ap (λ (x : List ℕ). (take end c ++ take k r) ++ x) (drop-drop k end c) in
        record {
          brings = record {
            count = k;
            fits = omega arith;
            left = left;
            some = λ z. drop_of_length-le src {i = at} (omega arith);
            allowed = tt;
          };
          buffer = put_in rd src w s b at;
          long = ap length same ∙ length-paste c end r k (omega arith) left;
          put = ap (take (end + k)) same ∙ take-paste c end r k (omega arith) left;
        }

    next-went : (s : Stream) (b : List ℕ) (at : ℕ) (ms : List Record) → Run rd any src s b (drop at src) ms → at ≤ length src
        → (a : Answer) → (next_of rd s b).answer ≡ a → Final a → Went ms (halt (next_of rd s b).state (next_of rd s b).answer b at)
    next-went s b at ms p le _ d (told {m = m}) = told-one m d le (message p m d)
    next-went s b at ms p le a d (stop h) = let k = ap stops d ∙ h in at-stop k (by_next p k)

    tries-went : (f : ℕ) (s : Stream) (b : List ℕ) (at : ℕ) (ms : List Record) → Run rd any src s b (drop at src) ms → at ≤ length src → length src - at < f
        → Went ms (tries rd src w f s b at)
    unfolding tries piece
    tries-went zero s b at ms p le h = absurd (omega arith)
    tries-went (suc f) s b at ms p le h =
        let k = portion rd src w s b at in
        turn rd src w s b at (Went ms) (tries rd src w f)
        (λ g. next-went s b at ms p le (next_of rd s b).answer refl (next-final rd s b g))
        (λ e g. let z = (room-refused (next_of rd s b).state (length b) g).1 in at-stop z (by-room p e z))
        (λ e r g. let z = (told-heard (made rd src w s b at).state k).ends g in at-stop z (by-told p e r (piece s b at le e r) z))
        (λ e r t.
        let o = onward rd src w s b at le t in
        tries-went f (fed rd src w s b at).state (put_in rd src w s b at) (at + k) ms
        (subst (λ (x : List ℕ). Run rd any src (fed rd src w s b at).state (put_in rd src w s b at) x ms) (drop-drop k at src) (read p e r (piece s b at le e r) t))
        o.1 (omega (arith, o.0)))

    -- the tests that come first are passed
    play-went : (s : Stream) (b : List ℕ) (at : ℕ) (ms : List Record) → Run rd any src s b (drop at src) ms → at ≤ length src → Went ms (play_of rd src w s b at)
    unfolding play_of try_of tries
    play-went s b at ms p le =
        let h = holds p in
        let none : w ≡ 0 → ⊥ = λ z. omega arith in
        simp (eq-eqb _ _ h.whole, le-leb _ _ h.sound.ordered, le-leb _ _ h.sound.inside, le-leb _ _ le, ne_eqb _ _ none)
        (tries-went (suc (length src - at)) s b at ms p le (omega arith))

  -- a message that a call answered
  one_more : (ms : List Record) (x : Out) → Went ms x → (m : Record) → x.played.answer ≡ Message m
      → Run rd any src x.played.state x.buffer (drop x.played.at src) (ms ++ (m ∷ [])) × (x.played.at ≤ length src)
  unfolding stops
  one_more ms x (told-one n d le r) m e =
      let i : n ≡ m = cc in
      (subst (λ (z : Record). Run rd any src x.played.state x.buffer (drop x.played.at src) (ms ++ (z ∷ []))) i r, le)
  one_more ms x (at-stop k r) m e = absurd (stops-not k refl e)

  module _ (width : ℕ → ℕ) (wide : (k : ℕ) → 0 < width k) where
    -- calls are a run
    runs : {s : Stream} {b : List ℕ} {at : ℕ} {ms : List Record} → Plays rd width src s b at ms → Run rd any src s b (drop at src) ms × (at ≤ length src)
    runs (first l) = (fresh l, omega arith)
    runs (another {s = s} {b = b} {at = at} {ms = ms} p m e) =
        let q = runs p in
        one_more ms _ (play-went (width (length ms)) (wide (length ms)) s b at ms q.0 q.1) m e

    -- calls that have ended have answered the messages that the slice holds, in order, and then its stop
    pub plays-all : {ms : List Record} {a : Answer} → PlayedOut rd width src ms a → Fits src → heard_of rd src ≡ record { messages = ms; stop = a }
    plays-all (ended {s = s} {b = b} {at = at} {ms = ms} p f) h =
        let q = runs p in
        all _ (play-went (width (length ms)) (wide (length ms)) s b at ms q.0 q.1) f
      where
        all : (x : Out) → Went ms x → ((m : Record) → x.played.answer ≡ Message m → ⊥) → heard_of rd src ≡ record { messages = ms; stop = x.played.answer }
        all x (told-one m d le r) f = absurd (f m d)
        all x (at-stop k r) f = any-cutting r h

    -- and they do end: each message is one of those
    abbrev Some : Type 0
    Some = (ms : List Record) × (a : Answer) × PlayedOut rd width src ms a

    fewer : (ms : List Record) (m : Record) (h : Heard) (k : ℕ) → heard_of rd src ≡ record { messages = (ms ++ (m ∷ [])) ++ h.messages; stop = h.stop }
        → length (heard_of rd src).messages - length ms < suc k → length (heard_of rd src).messages - length (ms ++ (m ∷ [])) < k
    fewer ms m h k e l =
        let n : length (heard_of rd src).messages ≡ length ((ms ++ (m ∷ [])) ++ h.messages) = ap (λ (x : Heard). length x.messages) e in
        omega (arith, length-append (ms ++ (m ∷ [])) h.messages, length-append ms (m ∷ []))

    abbrev Ended : ℕ → Type 0
    Ended k = (s : Stream) (b : List ℕ) (at : ℕ) (ms : List Record) → Plays rd width src s b at ms → length (heard_of rd src).messages - length ms < k → Some

    one-call : (k : ℕ) → Ended k → (s : Stream) (b : List ℕ) (at : ℕ) (ms : List Record) → Plays rd width src s b at ms
        → length (heard_of rd src).messages - length ms < suc k → Went ms (play_of rd src (width (length ms)) s b at) → Some
    unfolding stops
    one-call k go s b at ms p l (told-one m d le r) =
        let x = play_of rd src (width (length ms)) s b at in
        go _ _ _ _ (another p m d) (fewer ms m (heard_of rd (window_at x.played.state x.buffer ++ drop x.played.at src)) k (so_far r) l)
    one-call k go s b at ms p l (at-stop z r) = (ms, _, ended p (λ m e. stops-not z refl e))

    to_end : (k : ℕ) → Ended k
    to_end zero s b at ms p l = absurd (omega arith)
    to_end (suc k) s b at ms p l =
        let q = runs p in
        one-call k (to_end k) s b at ms p l (play-went (width (length ms)) (wide (length ms)) s b at ms q.0 q.1)

    pub plays-out : Fits src → PlayedOut rd width src (heard_of rd src).messages (heard_of rd src).stop
    plays-out h =
        let p = to_end (suc (length (heard_of rd src).messages)) _ _ _ _ (first {b = replicate 8192 0} (length-replicate {A = ℕ} 8192 0)) (omega arith) in
        let e = plays-all p.2 h in
        rw e p.2
