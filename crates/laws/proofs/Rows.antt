-- The laws of reading a row of fields, by induction on the row, with what follows the row as a parameter, so that header and body are one law:
-- appended bytes change no answer but `incomplete`, be the reading strict or not; and in the ordinary one, with enough bytes it is not `incomplete`, and an
-- accepted row had all of its bytes.
-- Assumes nothing.
use mathlib.Core.Path.{◌≡◌, refl, sym, ap, ◌∙◌}
use mathlib.Core.Bool.{Bool}
use mathlib.Core.List.{List, [], ◌∷◌, ◌++◌, append-nil, append_assoc}
use mathlib.Core.Logic.{⊎_elim}
use Prim.Native.Nat.{ℕ, ◌+◌, ◌≤◌}
use native.Mathlib.Nat.{add-zero, add_assoc}
use native.Mathlib.Omega.{arith}
use lib.ListN.{length, drop, length-append, length-drop}
use lib.Seq.{take-append-le, drop-append-le}
use Rattle.format.specs.Layout.{Kind, width, widths, part, Verdict, fine, wrong, placed, Got, got, short, refused, judge, judge_by, field, field_by, Answer, accepted, incomplete, step, read, read_by}
use Rattle.format.proofs.Fields.{short-by, judged-by, field-judged, field-fine}
use Rattle.format.proofs.Tests.{le-or-lt}
use Rattle.format.proofs.Runs.{Reads, end, ◌⨾◌}

-- an answer that more bytes do not change
abbrev pub Firm : Answer → Type 0
Firm a = a ≡ incomplete → ⊥

part-append : (s t : List ℕ) (at w : ℕ) → at + w ≤ length s → part (s ++ t) at w ≡ part s at w
part-append s t at w h =
    let a : at ≤ length s = omega arith in
    let b : w ≤ length (drop at s) = simp length-drop (omega arith) in
    rw (drop-append-le at s t a, take-append-le w (drop at s) t b)

field-append : (strict : Bool) (k : Kind) (s t : List ℕ) (at : ℕ) → at + width k ≤ length s → field_by strict k (s ++ t) at ≡ field_by strict k s at
field-append strict k s t at h =
    let l : at + width k ≤ length (s ++ t) = rw length-append (omega arith) in
    judged-by strict k (s ++ t) at l ∙ ap (λ bs. placed at (judge_by strict k bs)) (part-append s t at (width k) h) ∙ sym (judged-by strict k s at h)

placed-there : (at : ℕ) (v : Verdict) → placed at v ≡ short → ⊥
placed-there at (fine v) e = let z : ◌≡◌ {A = ℕ} 0 1 = cc in omega arith
placed-there at (wrong n o) e = let z : ◌≡◌ {A = ℕ} 0 1 = cc in omega arith

field-there : (k : Kind) (s : List ℕ) (at : ℕ) → at + width k ≤ length s → field k s at ≡ short → ⊥
field-there k s at h e = placed-there at (judge k (part s at (width k))) (sym (field-judged k s at h) ∙ e)

step_keeps : (g : Got) (R R' : ℕ → Answer) → Firm (step g R) → ((v : ℕ) → Firm (R v) → R' v ≡ R v) → step g R' ≡ step g R
step_keeps (got v) R R' f h = h v f
step_keeps short R R' f h = refl
step_keeps (refused n p) R R' f h = refl

pub keeps : (strict : Bool) (ks : List Kind) (s t : List ℕ) (at : ℕ) (acc : List ℕ) (go go' : List ℕ → ℕ → Answer)
    → ((vs : List ℕ) (n : ℕ) → Firm (go vs n) → go' vs n ≡ go vs n)
    → Firm (read_by strict ks s at acc go) → read_by strict ks (s ++ t) at acc go' ≡ read_by strict ks s at acc go
keeps strict [] s t at acc go go' h f = h acc at f
keeps strict (k ∷ ks) s t at acc go go' h f =
    ⊎_elim
    (λ l. rw (field-append strict k s t at l) (step_keeps (field_by strict k s at) _ _ f (λ v. keeps strict ks s t (at + width k) (acc ++ (v ∷ [])) go go' h)))
    (λ l. absurd (f (rw (← short-by strict k s at l))))
    (le-or-lt (at + width k) (length s))

step-firm : (g : Got) (R : ℕ → Answer) → (g ≡ short → ⊥) → ((v : ℕ) → Firm (R v)) → Firm (step g R)
step-firm (got v) R n h = h v
step-firm short R n h = absurd (n refl)
step-firm (refused a b) R n h = λ e. let z : ◌≡◌ {A = ℕ} 0 1 = cc in omega arith

pub enough : (ks : List Kind) (s : List ℕ) (at : ℕ) (acc : List ℕ) (go : List ℕ → ℕ → Answer)
    → at + widths ks ≤ length s → ((vs : List ℕ) (n : ℕ) → Firm (go vs n)) → Firm (read ks s at acc go)
enough [] s at acc go l h = h acc at
enough (k ∷ ks) s at acc go l h =
    step-firm (field k s at) _ (field-there k s at (omega arith)) (λ v. enough ks s (at + width k) (acc ++ (v ∷ [])) go (omega arith) h)

-- an accepted row: all of its fields have values, and what comes after them accepts
pub all_read : (ks : List Kind) (s : List ℕ) (at : ℕ) (acc : List ℕ) (go : List ℕ → ℕ → Answer) (vs : List ℕ) (n : ℕ)
    → read ks s at acc go ≡ accepted vs n → (hs : List ℕ) × Reads s ks at hs × (go (acc ++ hs) (at + widths ks) ≡ accepted vs n)
all_read [] s at acc go vs n e = ([], end, rw (append-nil, add-zero) e)
all_read (k ∷ ks) s at acc go vs n e = next (field k s at) refl e (λ v. all_read ks s (at + width k) (acc ++ (v ∷ [])) go vs n)
  where
    more : (v : ℕ) → field k s at ≡ got v
        → (hs : List ℕ) × Reads s ks (at + width k) hs × (go ((acc ++ (v ∷ [])) ++ hs) (at + width k + widths ks) ≡ accepted vs n)
        → (hs : List ℕ) × Reads s (k ∷ ks) at hs × (go (acc ++ hs) (at + (width k + widths ks)) ≡ accepted vs n)
    more v q r = (v ∷ r.0, sym q ⨾ r.1, rw (append_assoc acc (v ∷ []) r.0, add_assoc at (width k) (widths ks)) at r.2)

    next : (g : Got) → field k s at ≡ g → step g (λ v. read ks s (at + width k) (acc ++ (v ∷ [])) go) ≡ accepted vs n
        → ((v : ℕ) → read ks s (at + width k) (acc ++ (v ∷ [])) go ≡ accepted vs n
        → (hs : List ℕ) × Reads s ks (at + width k) hs × (go ((acc ++ (v ∷ [])) ++ hs) (at + width k + widths ks) ≡ accepted vs n))
        → (hs : List ℕ) × Reads s (k ∷ ks) at hs × (go (acc ++ hs) (at + (width k + widths ks)) ≡ accepted vs n)
    next (got v) q e' rest = more v q (rest v e')
    next short q e' rest = let z : ◌≡◌ {A = ℕ} 0 1 = cc in absurd (omega arith)
    next (refused a b) q e' rest = let z : ◌≡◌ {A = ℕ} 0 1 = cc in absurd (omega arith)

-- the bytes of fields that have their values are there
pub covers : {s : List ℕ} {ks : List Kind} {at : ℕ} {vs : List ℕ} → Reads s ks at vs → at ≤ length s → at + widths ks ≤ length s
covers end l = omega arith
covers {s} (◌⨾◌ {k = k} {ks = ks} {at = at} e r) l =
    omega (arith, covers r (field-fine k s at (sym e)).0)
