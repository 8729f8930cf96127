-- One call of `play`, by its turns: the window is tried, room is made, a piece is told, and so again. What holds of every way out of a turn holds of the
-- call's answer; so it is never "wants bytes" or "ready".
-- Assumes nothing.
use Prim.Native.Nat.{ℕ, zero, suc, ◌+◌, ◌-◌, ◌≤◌, ◌<◌}
use mathlib.Core.Path.{◌≡◌, refl, sym, subst}
use mathlib.Core.Bool.{Bool, true, false, cond}
use mathlib.Core.List.{List, ◌++◌}
use mathlib.Core.Logic.{◌⊎◌, inl, inr, ⊎_elim}
use native.Mathlib.Omega.{arith}
use borrow.Author.Tests.{leb-true}
use lib.Dec.{leb, eqb}
use lib.ListN.{length, take, drop}
use Rattle.format.specs.declared.Reading.{Reading}
use Rattle.records.specs.declared.Message.{Message as Record}
use Rattle.stream.specs.declared.Stream.{Stream}
use Rattle.stream.specs.declared.Step.{Step}
use Rattle.stream.specs.declared.Answer.{Answer}
use Rattle.stream.specs.declared.Answer.TheVariants.{Message, Wants, Ready, Nothing, Refused}
use Rattle.stream.specs.Next.{next_of}
use Rattle.stream.specs.Room.{room_of, room_buffer}
use Rattle.stream.specs.Told.{told_of}
use Rattle.stream_laws.specs.Ends.{stops}
use Rattle.stream_laws.proofs.Steps.{Next, no-next, message, wants, marked_next, next-is}
use Rattle.stream_laws.proofs.Calls.{marks-stops, stops-not, room-refused, told-came, told-heard}
use Rattle.play.specs.Play.{portion_of, filled, Out, Goes, halt, feed_by, fetch_by, try_by, tries, try_of, play_of}
use Rattle.play.proofs.Laws.{goes-wants, goes-ready, halts-wants, halts-ready}

-- is it the answer that goes on?
wants-or : (a : Answer) → (a ≡ Wants) ⊎ (a ≡ Wants → ⊥)
wants-or Wants = inl refl
wants-or (Message m) = inr (λ e. let z : ◌≡◌ {A = ℕ} 0 1 = cc in omega arith)
wants-or Ready = inr (λ e. let z : ◌≡◌ {A = ℕ} 0 1 = cc in omega arith)
wants-or Nothing = inr (λ e. let z : ◌≡◌ {A = ℕ} 0 1 = cc in omega arith)
wants-or (Refused n p) = inr (λ e. let z : ◌≡◌ {A = ℕ} 0 1 = cc in omega arith)

ready-or : (a : Answer) → (a ≡ Ready) ⊎ (a ≡ Ready → ⊥)
ready-or Ready = inl refl
ready-or (Message m) = inr (λ e. let z : ◌≡◌ {A = ℕ} 0 1 = cc in omega arith)
ready-or Wants = inr (λ e. let z : ◌≡◌ {A = ℕ} 0 1 = cc in omega arith)
ready-or Nothing = inr (λ e. let z : ◌≡◌ {A = ℕ} 0 1 = cc in omega arith)
ready-or (Refused n p) = inr (λ e. let z : ◌≡◌ {A = ℕ} 0 1 = cc in omega arith)

-- a turn's parts: room made behind next, the piece that goes into it, and what is told
module _ (rd : Reading) (src : List ℕ) (w : ℕ) (s : Stream) (b : List ℕ) (at : ℕ) where
  abbrev pub made : Step
  made = room_of (next_of rd s b).state (length b)

  abbrev pub room : List ℕ
  room = room_buffer (next_of rd s b).state b

  abbrev pub portion : ℕ
  portion = portion_of (length room - made.state.end) (length src - at) w

  abbrev pub put_in : List ℕ
  put_in = take made.state.end room ++ filled (drop made.state.end room) portion (drop at src)

  abbrev pub fed : Step
  fed = told_of made.state portion

  -- the ways out of a turn
  pub turn : (P : Out → Type 0) (g : Goes)
      → (((next_of rd s b).answer ≡ Wants → ⊥) → P (halt (next_of rd s b).state (next_of rd s b).answer b at))
      → ((next_of rd s b).answer ≡ Wants → (made.answer ≡ Ready → ⊥) → P (halt made.state made.answer room at))
      → ((next_of rd s b).answer ≡ Wants → made.answer ≡ Ready → (fed.answer ≡ Ready → ⊥) → P (halt fed.state fed.answer put_in (at + portion)))
      → ((next_of rd s b).answer ≡ Wants → made.answer ≡ Ready → fed.answer ≡ Ready → P (g fed.state put_in (at + portion)))
      → P (try_by rd src w g s b at)
  unfolding try_by fetch_by feed_by
  turn P g next-out room_out told-out goes =
      ⊎_elim
      (λ e. subst P (sym (goes-wants (fetch_by src w g) (next_of rd s b).state b at e))
      (⊎_elim
      (λ r. subst P (sym (goes-ready (feed_by src w g) made.state room at r))
      (⊎_elim
      (λ t. subst P (sym (goes-ready g fed.state put_in (at + portion) t)) (goes e r t))
      (λ f. subst P (sym (halts-ready g fed.state fed.answer put_in (at + portion) f)) (told-out e r f))
      (ready-or fed.answer)))
      (λ f. subst P (sym (halts-ready (feed_by src w g) made.state made.answer room at f)) (room_out e f))
      (ready-or made.answer)))
      (λ f. subst P (sym (halts-wants (fetch_by src w g) (next_of rd s b).state (next_of rd s b).answer b at f)) (next-out f))
      (wants-or (next_of rd s b).answer)

  -- a piece that was told brings a byte at least, and no more than are left
  pub onward : at ≤ length src → fed.answer ≡ Ready → (at < at + portion) × (at + portion ≤ length src)
  onward h e = (some portion (told-came made.state portion e).some, most portion (omega arith))
    where
      some : (k : ℕ) → 0 < k → at < at + k
      some k h = omega arith

      most : (k : ℕ) → k ≤ length src - at → at + k ≤ length src
      most k g = omega arith

-- ---- an answer of play is a message, or it stops

pub data Final : Answer → Type 0 where
  told : {m : Record} → Final (Message m)
  stop : {a : Answer} → stops a ≡ true → Final a

next-step : (rd : Reading) (s : Stream) (b : List ℕ) (x : Step) → Next rd s b x → (x.answer ≡ Wants → ⊥) → Final x.answer
unfolding stops
next-step rd s b _ (no-next _) f = stop refl
next-step rd s b _ (message h l m n w d) f = told
next-step rd s b _ (wants h l w) f = absurd (f refl)
next-step rd s b _ (marked_next h l n p w) f = stop (marks-stops s n p)

pub next-final : (rd : Reading) (s : Stream) (b : List ℕ) → ((next_of rd s b).answer ≡ Wants → ⊥) → Final (next_of rd s b).answer
next-final rd s b f = next-step rd s b (next_of rd s b) (next-is rd s b) f

abbrev Ends : Out → Type 0
Ends x = Final x.played.answer

tries-final : (rd : Reading) (src : List ℕ) (w f : ℕ) (s : Stream) (b : List ℕ) (at : ℕ) → at ≤ length src → length src - at < f → Ends (tries rd src w f s b at)
unfolding tries
tries-final rd src w zero s b at le h = absurd (omega arith)
tries-final rd src w (suc f) s b at le h =
    turn rd src w s b at Ends (tries rd src w f)
    (λ g. next-final rd s b g)
    (λ _ g. stop (room-refused (next_of rd s b).state (length b) g).1)
    (λ _ _ g. stop ((told-heard (made rd src w s b at).state (portion rd src w s b at)).ends g))
    (λ _ _ g. let o = onward rd src w s b at le g in tries-final rd src w f _ _ (at + portion rd src w s b at) o.1 (omega arith))

tried : (b : Bool) (x y : Out) → (b ≡ true → Ends x) → (b ≡ false → Ends y) → Ends (cond b x y)
tried true x y f g = f refl
tried false x y f g = g refl

play-final : (rd : Reading) (src : List ℕ) (w : ℕ) (s : Stream) (b : List ℕ) (at : ℕ) → Final (play_of rd src w s b at).played.answer
unfolding play_of try_of tries stops
play-final rd src w s b at =
    let bad : (n : ℕ) → Ends (halt s (Refused n 0) b at) = λ n. stop refl in
    tried (eqb (length b) 8192) _ _
    (λ _. tried (leb s.start s.end) _ _
    (λ _. tried (leb s.end 8192) _ _
    (λ _. tried (leb at (length src)) _ _
    (λ h. tried (eqb w 0) _ _ (λ _. bad 35) (λ _. tries-final rd src w (suc (length src - at)) s b at (leb-true _ _ h) (omega arith)))
    (λ _. bad 30))
    (λ _. bad 30))
    (λ _. bad 30))
    (λ _. bad 31)

final-not : {a c : Answer} → Final a → stops c ≡ false → ((m : Record) → c ≡ Message m → ⊥) → a ≡ c → ⊥
final-not told h f e = f _ (sym e)
final-not (stop g) h f e = stops-not g h e

-- so play never answers that it wants bytes, or that it is ready
pub never-waits : (rd : Reading) (src : List ℕ) (w : ℕ) (s : Stream) (b : List ℕ) (at : ℕ)
    → ((play_of rd src w s b at).played.answer ≡ Wants → ⊥) × ((play_of rd src w s b at).played.answer ≡ Ready → ⊥)
unfolding stops
never-waits rd src w s b at =
    let p = play-final rd src w s b at in (
      final-not p refl (λ m e. let z : ◌≡◌ {A = ℕ} 0 1 = cc in omega arith),
      final-not p refl (λ m e. let z : ◌≡◌ {A = ℕ} 0 1 = cc in omega arith),
    )
