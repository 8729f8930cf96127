-- Laws of the play: the steps of a call, from what its callees ensure, and that more tries than unread bytes change nothing.
-- Assumes nothing.
use Prim.Native.Nat.{ℕ, zero, suc, ◌+◌, ◌-◌, ◌≤◌, ◌<◌}
use mathlib.Core.Path.{◌≡◌, refl, sym, ap, ◌∙◌}
use mathlib.Core.List.{List, ◌++◌}
use native.Mathlib.Omega.{arith}
use lib.ListN.{length, take, drop}
use Rattle.format.specs.declared.Reading.{Reading}
use Rattle.stream.specs.declared.Stream.{Stream}
use Rattle.stream.specs.declared.Step.{Step}
use Rattle.stream.specs.declared.Answer.{Answer}
use Rattle.stream.specs.declared.Answer.TheVariants.{Message, Wants, Ready, Nothing, Refused}
use Rattle.stream_laws.proofs.Calls.{told-came}
use Rattle.stream.specs.Next.{next_of}
use Rattle.stream.specs.Told.{told_of}
use Rattle.stream.specs.Room.{room_of, room_buffer}
use Rattle.play.specs.Play.{portion_of, filled, Goes, halt, on_wants, on_ready, feed_by, fetch_by, try_by, tries, try_of, fetch_of}

-- where the answer is the one waited for
pub goes-wants : (g : Goes) (s : Stream) {a : Answer} (b : List ℕ) (at : ℕ) → a ≡ Wants → on_wants g s a b at ≡ g s b at
goes-wants g s b at e = ap (λ (x : Answer). on_wants g s x b at) e

pub goes-ready : (g : Goes) (s : Stream) {a : Answer} (b : List ℕ) (at : ℕ) → a ≡ Ready → on_ready g s a b at ≡ g s b at
goes-ready g s b at e = ap (λ (x : Answer). on_ready g s x b at) e

-- where it is not
pub halts-wants : (g : Goes) (s : Stream) (a : Answer) (b : List ℕ) (at : ℕ) → (a ≡ Wants → ⊥) → on_wants g s a b at ≡ halt s a b at
halts-wants g s Wants b at f = absurd (f refl)
halts-wants g s (Message m) b at f = refl
halts-wants g s Ready b at f = refl
halts-wants g s Nothing b at f = refl
halts-wants g s (Refused n p) b at f = refl

pub halts-ready : (g : Goes) (s : Stream) (a : Answer) (b : List ℕ) (at : ℕ) → (a ≡ Ready → ⊥) → on_ready g s a b at ≡ halt s a b at
halts-ready g s Ready b at f = absurd (f refl)
halts-ready g s (Message m) b at f = refl
halts-ready g s Wants b at f = refl
halts-ready g s Nothing b at f = refl
halts-ready g s (Refused n p) b at f = refl

-- two ways on that agree where they are asked come to the same
same-wants : (g h : Goes) (s : Stream) (a : Answer) (b : List ℕ) (at : ℕ) → (a ≡ Wants → g s b at ≡ h s b at) → on_wants g s a b at ≡ on_wants h s a b at
same-wants g h s Wants b at f = f refl
same-wants g h s (Message m) b at f = refl
same-wants g h s Ready b at f = refl
same-wants g h s Nothing b at f = refl
same-wants g h s (Refused n p) b at f = refl

same-ready : (g h : Goes) (s : Stream) (a : Answer) (b : List ℕ) (at : ℕ) → (a ≡ Ready → g s b at ≡ h s b at) → on_ready g s a b at ≡ on_ready h s a b at
same-ready g h s Ready b at f = f refl
same-ready g h s (Message m) b at f = refl
same-ready g h s Wants b at f = refl
same-ready g h s Nothing b at f = refl
same-ready g h s (Refused n p) b at f = refl

-- the ways on agree behind the position
abbrev Agree : List ℕ → ℕ → Goes → Goes → Type 0
Agree src at g h = (s : Stream) (b : List ℕ) (n : ℕ) → at < n → n ≤ length src → g s b n ≡ h s b n

-- and so what leads to them
abbrev Same : (List ℕ → ℕ → Goes → Goes) → Type 0
Same by =
    (src : List ℕ) (w : ℕ) (g h : Goes) (s : Stream) (b : List ℕ) (at : ℕ) → at ≤ length src → Agree src at g h → by src w g s b at ≡ by src w h s b at

same-feed : Same feed_by
unfolding feed_by
same-feed src w g h s b at le same =
    let k = portion_of (length b - s.end) (length src - at) w in
    same-ready g h _ _ _ _ (λ e. same _ _ (at + k) (more k (told-came s k e).some) (fits k (omega arith)))
  where
    more : (k : ℕ) → 0 < k → at < at + k
    more k h = omega arith

    fits : (k : ℕ) → k ≤ length src - at → at + k ≤ length src
    fits k h = omega arith

same-fetch : Same fetch_by
unfolding fetch_by
same-fetch src w g h s b at le same =
    let r = room_of s (length b) in
    same-ready (feed_by src w g) (feed_by src w h) r.state r.answer (room_buffer s b) at (λ _. same-feed src w g h r.state (room_buffer s b) at le same)

same-try : (rd : Reading) → Same (try_by rd)
unfolding try_by
same-try rd src w g h s b at le same =
    same-wants (fetch_by src w g) (fetch_by src w h) (next_of rd s b).state (next_of rd s b).answer b at (λ _. same-fetch src w g h (next_of rd s b).state b at le same)

-- tries beyond the unread bytes change nothing
agree : (rd : Reading) (src : List ℕ) (w f g : ℕ) (s : Stream) (b : List ℕ) (at : ℕ) → at ≤ length src → length src - at < f → length src - at < g
    → tries rd src w f s b at ≡ tries rd src w g s b at
unfolding tries
agree rd src w zero g s b at le hf hg = absurd (let x : ⊥ = omega arith in x)
agree rd src w (suc f) zero s b at le hf hg = absurd (let x : ⊥ = omega arith in x)
agree rd src w (suc f) (suc g) s b at le hf hg =
    same-try rd src w (tries rd src w f) (tries rd src w g) s b at le (λ s' b' n lt le'. agree rd src w f g s' b' n le' (omega arith) (omega arith))

-- a try further on is a try with as many tries left as there are unread bytes
pub enough : (rd : Reading) (src : List ℕ) (w f : ℕ) (s : Stream) (b : List ℕ) (at : ℕ) → at ≤ length src → length src - at < f
    → tries rd src w f s b at ≡ try_of rd src w s b at
unfolding tries try_of
enough rd src w f s b at le h = agree rd src w f (suc (length src - at)) s b at le h (omega arith)

-- the steps of a call, from what its callees ensure
module _ (rd : Reading) (src : List ℕ) (w : ℕ) (s : Stream) (b : List ℕ) (at : ℕ) where
  abbrev left : Goes
  left = tries rd src w (length src - at)

  tried : (r : Step) → r ≡ next_of rd s b → on_wants (fetch_by src w left) r.state r.answer b at ≡ try_of rd src w s b at
  unfolding try_of try_by
  tried r e = ap (λ (x : Step). on_wants (fetch_by src w left) x.state x.answer b at) e

  pub try-halts : (r : Step) → r ≡ next_of rd s b → (r.answer ≡ Wants → ⊥) → halt r.state r.answer b at ≡ try_of rd src w s b at
  try-halts r e f = sym (halts-wants (fetch_by src w left) r.state r.answer b at f) ∙ tried r e

  pub try-goes : (r : Step) → r ≡ next_of rd s b → r.answer ≡ Wants → fetch_of rd src w r.state b at ≡ try_of rd src w s b at
  unfolding fetch_of
  try-goes r e h = sym (goes-wants (fetch_by src w left) r.state b at h) ∙ tried r e

  roomed : (r : Step) (b₁ : List ℕ) → r ≡ room_of s (length b) → b₁ ≡ room_buffer s b
      → on_ready (feed_by src w left) r.state r.answer b₁ at ≡ fetch_of rd src w s b at
  unfolding fetch_of fetch_by
  roomed r b₁ e f =
      ap (λ (l : List ℕ). on_ready (feed_by src w left) r.state r.answer l at) f
      ∙ ap (λ (x : Step). on_ready (feed_by src w left) x.state x.answer (room_buffer s b) at) e

  pub room-halts : (r : Step) (b₁ : List ℕ) → r ≡ room_of s (length b) → b₁ ≡ room_buffer s b → (r.answer ≡ Ready → ⊥)
      → halt r.state r.answer b₁ at ≡ fetch_of rd src w s b at
  room-halts r b₁ e f no_room = sym (halts-ready (feed_by src w left) r.state r.answer b₁ at no_room) ∙ roomed r b₁ e f

  module _ (r : Step) (b₁ : List ℕ) (er : r ≡ room_of s (length b)) (eb : b₁ ≡ room_buffer s b) (ready : r.answer ≡ Ready)
      (n : ℕ) (b₂ : List ℕ) (t : Step) (en : n ≡ portion_of (length b₁ - r.state.end) (length src - at) w)
      (ef : b₂ ≡ take r.state.end b₁ ++ filled (drop r.state.end b₁) n (drop at src)) (et : t ≡ told_of r.state n) where
    told : on_ready left t.state t.answer b₂ (at + n) ≡ fetch_of rd src w s b at
    unfolding feed_by
    told =
        let e = r.state.end in
        ap (λ (l : List ℕ). on_ready left t.state t.answer l (at + n)) ef
        ∙ ap (λ (x : Step). on_ready left x.state x.answer (take e b₁ ++ filled (drop e b₁) n (drop at src)) (at + n)) et
        ∙ ap (λ (k : ℕ). on_ready left (told_of r.state k).state (told_of r.state k).answer (take e b₁ ++ filled (drop e b₁) k (drop at src)) (at + k)) en
        ∙ sym (goes-ready (feed_by src w left) r.state b₁ at ready)
        ∙ roomed r b₁ er eb

    pub told-halts : (t.answer ≡ Ready → ⊥) → halt t.state t.answer b₂ (at + n) ≡ fetch_of rd src w s b at
    told-halts f = sym (halts-ready left t.state t.answer b₂ (at + n) f) ∙ told

    pub brings : t.answer ≡ Ready → 0 < n
    brings h = (told-came r.state n (ap (λ (x : Step). x.answer) (sym et) ∙ h)).some

    pub told-goes : at ≤ length src → t.answer ≡ Ready → try_of rd src w t.state b₂ (at + n) ≡ fetch_of rd src w s b at
    told-goes le h =
        let m = brings h in
        sym (enough rd src w (length src - at) t.state b₂ (at + n) (omega arith) (omega arith)) ∙ sym (goes-ready left t.state b₂ (at + n) h) ∙ told
