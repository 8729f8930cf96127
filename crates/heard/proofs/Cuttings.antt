-- What a stream over an input gives does not depend on how the reads cut it.
-- Assumes nothing.
use Prim.Native.Nat.{ℕ, suc, min}
use mathlib.Core.Path.{◌≡◌, refl, sym, ap, subst, ◌∙◌}
use mathlib.Core.List.{List, [], ◌∷◌, ◌++◌}
use mathlib.Core.Logic.{⊎_elim}
use native.Mathlib.Omega.{arith}
use lib.ListN.{length}
use Rattle.format.specs.declared.Reading.{Reading}
use Rattle.records.specs.declared.Message.{Message as Record}
use Rattle.stream.specs.declared.Stream.{Stream}
use Rattle.stream.specs.declared.Answer.{Answer}
use Rattle.stream.specs.declared.Answer.TheVariants.{Refused}
use Rattle.stream.specs.Next.{window_at}
use Rattle.heard.specs.Heard.{Heard, before, heard_of, Stop}
use Rattle.heard.specs.Runs.{Cutting, Feeds, by_sizes, Run, Stopped, Fits}
use Rattle.heard.proofs.Inputs.{stop_is}
use Rattle.heard.proofs.Holds.{holds}
use Rattle.heard.proofs.Ended.{ended}
use Rattle.heard.proofs.Every.{run-to-end}

-- at every point of a run the messages answered are the first that the input holds, and what is still to come is held by the window and the rest
pub so_far : {rd : Reading} {may : Cutting} {input : List ℕ} {s : Stream} {b r : List ℕ} {ms : List Record} → Run rd may input s b r ms
    → heard_of rd input ≡ before ms (heard_of rd (window_at s b ++ r))
so_far p = (holds p).heard

-- a run that has ended, and not with 33, has given the messages that the input holds, in order, and its stop
pub unless-33 : {rd : Reading} {may : Cutting} {input : List ℕ} {ms : List Record} {a : Answer} → Stopped rd may input ms a → (a ≡ Refused 33 0 → ⊥)
    → heard_of rd input ≡ record { messages = ms; stop = a }
unless-33 p f = ⊎_elim (λ e. e) (λ e. absurd (f e.0)) (ended p)

-- where the input's bytes can be counted 33 never comes
pub any-cutting : {rd : Reading} {may : Cutting} {input : List ℕ} {ms : List Record} {a : Answer} → Stopped rd may input ms a → Fits input
    → heard_of rd input ≡ record { messages = ms; stop = a }
any-cutting p h = ⊎_elim (λ e. e) (λ e. absurd (e.1 h)) (ended p)

-- that stop is nothing more, 1 to 5 or 10: no call of the run refused with 30 to 34
pub stops-well : {rd : Reading} {may : Cutting} {input : List ℕ} {ms : List Record} {a : Answer} → Stopped rd may input ms a → Fits input → Stop a
stops-well {rd} {input = input} p h = subst Stop (ap (λ (x : Heard). x.stop) (any-cutting p h)) (stop_is rd input)

-- so two cuttings give the same messages in the same order, and the same stop
pub same-cuttings : {rd : Reading} {may may' : Cutting} {input : List ℕ} {ms ns : List Record} {a c : Answer} → Stopped rd may input ms a
    → Stopped rd may' input ns c → Fits input → (ms ≡ ns) × (a ≡ c)
same-cuttings p q h =
    let e = sym (any-cutting p h) ∙ any-cutting q h in
    (ap (λ (x : Heard). x.messages) e, ap (λ (x : Heard). x.stop) e)

-- and where an input is known to begin with some messages, these are the first of every run
pub first-messages : {rd : Reading} {may : Cutting} {input : List ℕ} {ns : List Record} {a : Answer} → Stopped rd may input ns a → Fits input
    → (ms : List Record) (h : Heard) → heard_of rd input ≡ before ms h → ns ≡ ms ++ h.messages
first-messages p l ms h e = ap (λ (x : Heard). x.messages) (sym (any-cutting p l) ∙ e)

-- every cutting that has a read wherever there is room has such a run
pub every-cutting : (rd : Reading) (may : Cutting) (input : List ℕ) → Feeds may → Fits input
    → Stopped rd may input (heard_of rd input).messages (heard_of rd input).stop
every-cutting rd may input feeds h =
    let p = run-to-end rd may input feeds in
    let e = any-cutting p.2 h in
    rw e p.2

sizes-feed : (size : ℕ → ℕ) → Feeds (by_sizes size)
sizes-feed size room r h = record {
  count = min room (min (suc (size (length r))) (length r));
  fits = omega arith;
  left = omega arith;
  some = λ z. none r (omega arith);
  allowed = refl;
}
  where
    none : (r : List ℕ) → length r ≡ 0 → r ≡ []
    none [] z = refl
    none (x ∷ r) z = absurd (omega arith)

-- so for reads of any sizes
pub any-sizes : (rd : Reading) (size : ℕ → ℕ) (input : List ℕ) → Fits input → Stopped rd (by_sizes size) input (heard_of rd input).messages (heard_of rd input).stop
any-sizes rd size input h = every-cutting rd (by_sizes size) input (sizes-feed size) h
