-- The meaning of a window's answer determines the answer: `window_from` undoes `window_m`. So the contract of `parse_message` is an equation on the
-- answer itself.
-- Assumes nothing.
use mathlib.Core.Path.{◌≡◌, refl, sym, ap, ◌∙◌}
use mathlib.Core.List.{List}
use Prim.Native.Nat.{ℕ}
use Rattle.std.specs.Prelude.{Ok, Err}
use Rattle.format.specs.Rows.{window}
use Rattle.format.specs.Meaning.{refusal, bad}
use Rattle.format.specs.declared.Refusal.{Refusal}
use Rattle.format.specs.declared.Fault.TheVariants.{Short, Refused}
use Rattle.format.specs.declared.Reading.{Reading}
use Rattle.records.specs.declared.Message.{Message}
use Rattle.records.proofs.Back.{body_back}
use Rattle.reader.specs.Window.{Window, window_m, window_from, window_of}

pub window-back : (r : Window) → window_from (window_m r) ≡ r
window-back (Ok (m, n)) = simp body_back
window-back (Err Short) = refl
window-back (Err (Refused r)) = refl

-- what `parse_message` ensures, as an equation on its answer
pub exactly : (rd : Reading) (s : List ℕ) (r : Window) → window_m r ≡ window rd s → r ≡ window_of rd s
unfolding window_of
exactly rd s r e = sym (window-back r) ∙ ap window_from e

-- two accepted answers that are one have one message and one length, two refusals one number and one place
abbrev message_or : Message → Window → Message
message_or d (Ok (m, n)) = m
message_or d (Err e) = d

abbrev used_or : ℕ → Window → ℕ
used_or d (Ok (m, n)) = n
used_or d (Err e) = d

pub same-accepted : {m k : Message} {n i : ℕ} → ◌≡◌ {A = Window} (Ok (m, n)) (Ok (k, i)) → (m ≡ k) × (n ≡ i)
same-accepted {m = m} {n = n} e = (ap (message_or m) e, ap (used_or n) e)

abbrev refusal_or : Refusal → Window → Refusal
refusal_or d (Ok a) = d
refusal_or d (Err Short) = d
refusal_or d (Err (Refused r)) = r

pub same-refused : {n p i j : ℕ} → ◌≡◌ {A = Window} (Err (bad n p)) (Err (bad i j)) → (n ≡ i) × (p ≡ j)
same-refused {n = n} {p = p} e =
    let q : refusal n p ≡ refusal _ _ = ap (refusal_or (refusal n p)) e in
    (ap (λ r. r.number) q, ap (λ r. r.place) q)
