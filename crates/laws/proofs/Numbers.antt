-- A window is refused with 1, 2 or 3, in a strict reading with 4 or 5 too, and with no other number.
-- Assumes nothing.
use Prim.Native.Nat.{ℕ, ◌+◌, ◌≤◌}
use mathlib.Core.Path.{◌≡◌}
use mathlib.Core.Bool.{Bool, true, false, cond}
use mathlib.Core.List.{List, [], ◌∷◌, ◌++◌}
use native.Mathlib.Omega.{arith}
use lib.Dec.{leb}
use lib.ListN.{length, get_or, drop}
use Rattle.std.specs.Prelude.{Err}
use Rattle.format.specs.Layout.{be, Kind, num, time, text, code, subtype, width, part, placed, Got, got, short, refused, judge, field, Answer, accepted, incomplete, refuses, step, read, field_by, judge_by}
use Rattle.format.specs.Codes.{subtypes}
use Rattle.format.specs.Rows.{rows_in, Found, found, none, find, under, header, message, window}
use Rattle.format.specs.declared.Reading.{Reading}
use Rattle.format.specs.Strict.{ordinary}
use Rattle.format.proofs.Fields.{text-cases, code-cases}
use Rattle.format.proofs.Strict.{by-reading}
use Rattle.format.specs.Meaning.{bad}
use Rattle.reader.specs.Window.{window_from, window_of}
use Rattle.reader.proofs.Back.{same-refused}

data Field : Got → Type 0 where
  value : {v : ℕ} → Field (got v)
  cut : Field short
  ill : {n p : ℕ} → (1 ≤ n) × (n ≤ 5) → Field (refused n p)

data Whole : Answer → Type 0 where
  read_all : {vs : List ℕ} {n : ℕ} → Whole (accepted vs n)
  not_there : Whole incomplete
  low : {n p : ℕ} → (1 ≤ n) × (n ≤ 5) → Whole (refuses n p)

judge-low : (k : Kind) (bs : List ℕ) (at : ℕ) → Field (placed at (judge k bs))
unfolding judge_by
judge-low (num w) bs at = value
judge-low time bs at = value
judge-low (text w) bs at = text-cases (λ x. Field (placed at x)) w bs (λ _. value) (λ _. ill (omega arith, omega arith))
judge-low (code set) bs at = code-cases (λ x. Field (placed at x)) set (be bs) (λ _. value) (λ _. ill (omega arith, omega arith))
judge-low subtype bs at = code-cases (λ x. Field (placed at x)) subtypes (be bs) (λ _. value) (λ _. ill (omega arith, omega arith))

there : (b : Bool) (g : Got) → Field g → Field (cond b g short)
there true g p = p
there false g p = cut

field-low : (k : Kind) (s : List ℕ) (at : ℕ) → Field (field k s at)
unfolding field_by
field-low k s at = there (leb (at + width k) (length s)) (placed at (judge k (part s at (width k)))) (judge-low k (part s at (width k)) at)

step-low : (g : Got) (go : ℕ → Answer) → Field g → ((v : ℕ) → Whole (go v)) → Whole (step g go)
step-low (got v) go p f = f v
step-low short go p f = not_there
step-low (refused n p) go (ill h) f = low h

read_low : (ks : List Kind) (s : List ℕ) (at : ℕ) (vs : List ℕ) (go : List ℕ → ℕ → Answer) → ((vs : List ℕ) (n : ℕ) → Whole (go vs n)) → Whole (read ks s at vs go)
read_low [] s at vs go f = f vs at
read_low (k ∷ ks) s at vs go f = step-low (field k s at) _ (field-low k s at) (λ v. read_low ks s (at + width k) (vs ++ (v ∷ [])) go f)

under_low : (f : Found) (s : List ℕ) (at : ℕ) (vs : List ℕ) → Whole (under f s at vs)
under_low (found r) s at vs = read_low r.body s at vs accepted (λ ws n. read_all)
under_low none s at vs = low {n = 1} {p = 2} (omega arith, omega arith)

window-low : (rd : Reading) (s : List ℕ) → Whole (window rd s)
unfolding window
window-low rd s =
    by-reading Whole rd s
    (read_low header s 0 [] (message (ordinary rd) s) (λ h at. under_low (find (rows_in rd) (get_or h 1 0)) s at (drop 1 h ++ (get_or h 1 0 ∷ []))))
    (low (omega arith, omega arith))
    (λ p. low (omega arith, omega arith))

from_low : (a : Answer) (n p : ℕ) → Whole a → window_from a ≡ Err (bad n p) → (1 ≤ n) × (n ≤ 5)
from_low (accepted vs k) n p w e = let z : ◌≡◌ {A = ℕ} 0 1 = cc in absurd (omega arith)
from_low incomplete n p w e = let z : ◌≡◌ {A = ℕ} 0 1 = cc in absurd (omega arith)
from_low (refuses m o) n p (low h) e = let q : m ≡ n = (same-refused e).0 in (omega arith, omega arith)

pub number-low : (rd : Reading) (s : List ℕ) (n p : ℕ) → window_of rd s ≡ Err (bad n p) → (1 ≤ n) × (n ≤ 5)
unfolding window_of
number-low rd s n p e = from_low (window rd s) n p (window-low rd s) e
