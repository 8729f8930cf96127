-- How a row of fields is read: all of its fields have values, or one of them stops it. What the code shows of a body is one of the two, made
-- from what its leaves ensure, field by field; two laws turn them into the interpreter's answer.
-- Assumes nothing.
use mathlib.Core.Path.{◌≡◌, refl, sym, ap, ◌∙◌}
use mathlib.Core.List.{List, [], ◌∷◌, ◌++◌, append_assoc, append-nil}
use Prim.Native.Nat.{ℕ, ◌+◌}
use native.Mathlib.Nat.{add-zero, add_assoc}
use Rattle.std.proofs.Common.{Result}
use Rattle.std.specs.Result.{IsErrAnd}
use Rattle.std.proofs.lemmas.Result.{err_from_is_err_and}
use Rattle.format.specs.Layout.{Kind, width, widths, got, field, Answer, accepted, step, read}
use Rattle.format.specs.Rows.{Row, rows, found, find, under, body_of}
use Rattle.format.specs.Meaning.{fault_m, stop_m, answer_m}
use Rattle.format.specs.declared.Fault.{Fault}
use Rattle.format.specs.declared.Fault.TheVariants.{Short, Refused}

-- every field of a row has its value
pub data Reads (s : List ℕ) : List Kind → ℕ → List ℕ → Type 0 where
  end : {at : ℕ} → Reads s [] at []
  ◌⨾◌ : {k : Kind} {ks : List Kind} {at v : ℕ} {vs : List ℕ} → got v ≡ field k s at → Reads s ks (at + width k) vs → Reads s (k ∷ ks) at (v ∷ vs)

infixr 30 ◌⨾◌
pub reads : {s : List ℕ} {ks : List Kind} {at : ℕ} {vs : List ℕ} → Reads s ks at vs → (acc : List ℕ) (go : List ℕ → ℕ → Answer)
    → read ks s at acc go ≡ go (acc ++ vs) (at + widths ks)
reads (end {at = at}) acc go = rw (append-nil, add-zero)
reads (◌⨾◌ {k = k} {ks = ks} {at = at} {v = v} {vs = vs} e r) acc go =
    rw (← e) (reads r (acc ++ (v ∷ [])) go ∙ rw (append_assoc acc (v ∷ []) vs, add_assoc at (width k) (widths ks)))

-- the fields of a row, read from a place on, have values up to a field: what is left of the row, and where that stands
pub data Upto (s : List ℕ) (row : List Kind) (from : ℕ) : List Kind → ℕ → Type 0 where
  start : Upto s row from row from
  ◌▹◌ : {k : Kind} {ks : List Kind} {at v : ℕ} → Upto s row from (k ∷ ks) at → got v ≡ field k s at → Upto s row from ks (at + width k)

infixl 30 ◌▹◌
passed : {s : List ℕ} {row : List Kind} {from : ℕ} {ks : List Kind} {at : ℕ} → Upto s row from ks at → (acc : List ℕ) (go : List ℕ → ℕ → Answer)
    → (vs : List ℕ) × (read row s from acc go ≡ read ks s at vs go)
passed start acc go = (acc, refl)
passed (◌▹◌ {v = v} u e) acc go =
    let r = passed u acc go in
    (r.0 ++ (v ∷ []), r.1 ∙ rw (← e) refl)

step-fault : (e : Fault) (go : ℕ → Answer) → step (fault_m e) go ≡ stop_m e
step-fault Short go = refl
step-fault (Refused r) go = refl

-- a field with a fault stops the row
pub stops : {s : List ℕ} {row : List Kind} {from : ℕ} {k : Kind} {ks : List Kind} {at : ℕ} (e : Fault) → Upto s row from (k ∷ ks) at
    → fault_m e ≡ field k s at → (acc : List ℕ) (go : List ℕ → ℕ → Answer) → read row s from acc go ≡ stop_m e
stops e u q acc go = (passed u acc go).1 ∙ rw (← q) (step-fault e _)

-- the two answers of a body, under its tag's row
pub body-stops : {A : Type 0} (values : A → List ℕ) (t : ℕ) (r : Row) (e : Fault) (x : Result (A × ℕ) Fault) {s : List ℕ} {k : Kind} {ks : List Kind} {at : ℕ}
    → find rows t ≡ found r → Upto s r.body 13 (k ∷ ks) at → fault_m e ≡ field k s at → IsErrAnd x (λ y. y ≡ e) → answer_m values x ≡ body_of t s
unfolding body_of
body-stops values t r e x {s} f u q h =
    let p = err_from_is_err_and x h in
    ap (answer_m values) p.1 ∙ ap stop_m p.2 ∙ sym (ap (λ y. under y s 13 (t ∷ [])) f ∙ stops e u q (t ∷ []) accepted)

pub body_reads : (t : ℕ) (r : Row) {s vs : List ℕ} → find rows t ≡ found r → Reads s r.body 13 vs
    → accepted (t ∷ vs) (13 + widths r.body) ≡ body_of t s
unfolding body_of
body_reads t r {s} f u = sym (ap (λ x. under x s 13 (t ∷ [])) f ∙ reads u (t ∷ []) accepted)
