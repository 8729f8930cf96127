-- A leaf's answer is the interpreter's field: what a leaf has to show in each of its cases, once for every width.
-- Assumes nothing.
use mathlib.Core.Path.{◌≡◌, refl, ap, sym, ◌∙◌}
use mathlib.Core.List.{List, [], ◌∷◌}
use mathlib.Core.Bool.{Bool, true, false, cond}
use Prim.Native.Nat.{ℕ, ◌+◌, ◌%◌, ◌^◌, ◌<◌, ◌≤◌}
use native.Mathlib.Omega.{arith}
use Rattle.std.proofs.Math.Nat.{mod-eq_of_lt}
use lib.Dec.{leb}
use lib.ListN.{length, get_or}
use lib.Seq.{drop-cons}
use borrow.Author.Tests.{le-leb, lt-leb, leb-true}
use Rattle.format.specs.Utf8.{well_formed, first_bad}
use Rattle.format.specs.Layout.{Kind, num, text, width, be, part, member, Verdict, fine, wrong, got, short, refused, judge, judge_by, placed, field, field_by}
use Rattle.format.specs.Meaning.{fault_m}
use Rattle.format.specs.declared.Fault.{Fault}
use Rattle.format.specs.declared.Fault.TheVariants.{Short, Refused}
use Rattle.format.proofs.Bytes.{be-one}

-- by either reading: a field that is not all there; one that is, which is the judgement of its bytes; a number
pub short-by : (strict : Bool) (k : Kind) (s : List ℕ) (at : ℕ) → length s < at + width k → short ≡ field_by strict k s at
unfolding field_by
short-by strict k s at h = rw (lt-leb _ _ h)

pub judged-by : (strict : Bool) (k : Kind) (s : List ℕ) (at : ℕ) → at + width k ≤ length s
    → field_by strict k s at ≡ placed at (judge_by strict k (part s at (width k)))
unfolding field_by
judged-by strict k s at h = rw (le-leb _ _ h)

pub num-by : (strict : Bool) (w : ℕ) (s : List ℕ) (at : ℕ) {v : ℕ} → at + w ≤ length s → v ≡ be (part s at w) → got v ≡ field_by strict (num w) s at
unfolding judge_by
num-by strict w s at h e = sym (judged-by strict (num w) s at h ∙ ap got (sym e))

-- the same in the ordinary reading
pub field-short : (k : Kind) (s : List ℕ) (at : ℕ) → length s < at + width k → short ≡ field k s at
field-short = short-by false

pub field-judged : (k : Kind) (s : List ℕ) (at : ℕ) → at + width k ≤ length s → field k s at ≡ placed at (judge k (part s at (width k)))
field-judged = judged-by false

pub field-num : (w : ℕ) (s : List ℕ) (at : ℕ) {v : ℕ} → at + w ≤ length s → v ≡ be (part s at w) → got v ≡ field (num w) s at
field-num = num-by false

-- the last w bytes of a number of w bytes are the number
pub field-low : (w : ℕ) (s : List ℕ) (at : ℕ) {v x : ℕ} → (at + w ≤ length s) × (v ≡ be (part s at w)) × (v < 256 ^ w) → x ≡ v % 256 ^ w
    → got x ≡ field (num w) s at
field-low w s at h e = field-num w s at h.0 (e ∙ mod-eq_of_lt h.2 ∙ h.1)

-- a field that gave a value: its bytes are all there, and are judged to be it
placed-fine : (t : Bool) (at : ℕ) (x : Verdict) (v : ℕ) → cond t (placed at x) short ≡ got v → (t ≡ true) × (x ≡ fine v)
placed-fine true at (fine u) v e = (refl, cc)
placed-fine true at (wrong n o) v e = let z : ◌≡◌ {A = ℕ} 0 1 = cc in absurd (omega arith)
placed-fine false at x v e = let z : ◌≡◌ {A = ℕ} 0 1 = cc in absurd (omega arith)

pub field-fine : (k : Kind) (s : List ℕ) (at : ℕ) {v : ℕ} → field k s at ≡ got v → (at + width k ≤ length s) × (judge k (part s at (width k)) ≡ fine v)
unfolding field_by
field-fine k s at {v} e =
    let h = placed-fine (leb (at + width k) (length s)) at (judge k (part s at (width k))) v e in
    (leb-true (at + width k) (length s) h.0, h.1)

-- a number that was read: its bytes are there, and are it
pub num-fine : (w : ℕ) (s : List ℕ) (at : ℕ) {v : ℕ} → got v ≡ field (num w) s at → (at + w ≤ length s) × (v ≡ be (part s at w))
unfolding judge_by
num-fine w s at e =
    let h = field-fine (num w) s at (sym e) in
    (h.0, cc h.1)

pub field-text : (w : ℕ) (s : List ℕ) (at : ℕ) {v : ℕ} → at + w ≤ length s → v ≡ be (part s at w) → well_formed (part s at w) ≡ true
    → got v ≡ field (text w) s at
unfolding judge_by
field-text w s at h e t = sym (field-judged (text w) s at h ∙ rw t (ap got (sym e)))

pub field-no-text : (w : ℕ) (s : List ℕ) (at : ℕ) {p : ℕ} → at + w ≤ length s → well_formed (part s at w) ≡ false → p ≡ at + first_bad (part s at w)
    → refused 3 p ≡ field (text w) s at
unfolding judge_by
field-no-text w s at h t e = sym (field-judged (text w) s at h ∙ rw t (ap (refused 3) (sym e)))

-- a text's judgement, by cases; so one that has a value is well formed, and the value is its bytes
pub text-cases : (P : Verdict → Type 0) (w : ℕ) (bs : List ℕ) → (well_formed bs ≡ true → P (fine (be bs)))
    → (well_formed bs ≡ false → P (wrong 3 (first_bad bs))) → P (judge (text w) bs)
unfolding judge_by
text-cases P w bs f g = go (well_formed bs) refl
  where
    go : (b : Bool) → well_formed bs ≡ b → P (cond b (fine (be bs)) (wrong 3 (first_bad bs)))
    go true e = f e
    go false e = g e

pub text-fine : (w : ℕ) (bs : List ℕ) (v : ℕ) → judge (text w) bs ≡ fine v → (well_formed bs ≡ true) × (be bs ≡ v)
text-fine w bs v =
    text-cases (λ x. x ≡ fine v → (well_formed bs ≡ true) × (be bs ≡ v)) w bs
    (λ t e. (t, cc))
    (λ t e. let z : ◌≡◌ {A = ℕ} 0 1 = cc in absurd (omega arith))

-- a code's judgement, by cases, be it a code of one byte or the subtype; so one that has a value is of its set, and the value is the code
pub code-cases : (P : Verdict → Type 0) (set : List ℕ) (v : ℕ) → (member v set ≡ true → P (fine v)) → (member v set ≡ false → P (wrong 2 0))
    → P (cond (member v set) (fine v) (wrong 2 0))
code-cases P set v f g = go (member v set) refl
  where
    go : (b : Bool) → member v set ≡ b → P (cond b (fine v) (wrong 2 0))
    go true e = f e
    go false e = g e

pub code-fine : (set : List ℕ) (v w : ℕ) → cond (member v set) (fine v) (wrong 2 0) ≡ fine w → (member v set ≡ true) × (v ≡ w)
code-fine set v w =
    code-cases (λ x. x ≡ fine w → (member v set ≡ true) × (v ≡ w)) set v
    (λ t e. (t, cc))
    (λ t e. let z : ◌≡◌ {A = ℕ} 0 1 = cc in absurd (omega arith))

-- a field of one byte whose byte is there is the judgement of that byte
pub one_byte : (k : Kind) (s : List ℕ) (at : ℕ) {b : ℕ} → width k ≡ 1 → field (num 1) s at ≡ got b → field k s at ≡ placed at (judge k (b ∷ []))
unfolding judge_by
one_byte k s at {b} w e =
    let h = field-fine (num 1) s at e in
    let l : at < length s = omega arith in
    let p : part s at 1 ≡ get_or s at 0 ∷ [] = rw (drop-cons s at 0) in
    let q : get_or s at 0 ≡ b = sym (be-one s at l) ∙ cc h.1 in
    field-judged k s at (omega arith) ∙ rw (w, p, q)

-- a field that is short as a number of its width is short
not_there : (t : Bool) (v : ℕ) (e : Fault) → cond t (got v) short ≡ fault_m e → (t ≡ false) × (fault_m e ≡ short)
not_there true v Short q = let z : ◌≡◌ {A = ℕ} 0 1 = cc in absurd (omega arith)
not_there true v (Refused r) q = let z : ◌≡◌ {A = ℕ} 0 1 = cc in absurd (omega arith)
not_there false v e q = (refl, sym q)

pub num-short : (k : Kind) (w : ℕ) (s : List ℕ) (at : ℕ) (e : Fault) → width k ≡ w → field (num w) s at ≡ fault_m e → field k s at ≡ fault_m e
unfolding field_by judge_by
num-short k w s at e l q =
    let h = not_there (leb (at + w) (length s)) (be (part s at w)) e q in
    rw l (rw (h.0, h.1))
