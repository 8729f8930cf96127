-- The header's two answers: short of 13 bytes it is incomplete, and else its fields are the numbers that the code reads.
-- Assumes nothing.
use mathlib.Core.Path.{◌≡◌, refl, sym}
use mathlib.Core.List.{List, [], ◌∷◌, ◌++◌}
use mathlib.Core.Bool.{Bool, true, false, cond}
use mathlib.Core.Logic.{⊎_elim}
use Prim.Native.Nat.{ℕ, ◌+◌, ◌*◌, ◌/◌, ◌%◌, ◌^◌, ◌<◌, ◌≤◌}
use native.Mathlib.Omega.{arith}
use lib.Dec.{T, leb}
use lib.ListN.{length, get_or, drop}
use Rattle.format.specs.Layout.{Kind, num, time, text, code, subtype, widths, be, day, part, got, fine, wrong, placed, judge_by, field, step, Answer, accepted, incomplete, refuses, read_by}
use Rattle.format.specs.Rows.{header, header_of}
use Rattle.format.proofs.Tests.{le-or-lt}
use Rattle.format.proofs.Bytes.{Bytes, be-one, be-split, be-below}
use Rattle.format.proofs.Fields.{short-by, judged-by, num-by, field-num, field-judged}
use Rattle.format.proofs.Runs.{Reads, end, ◌⨾◌, reads}

-- a row of numbers, but for its last field, that is not all there is incomplete
abbrev numbers : List Kind → Bool
numbers [] = true
numbers (k ∷ []) = true
numbers (num w ∷ k ∷ ks) = numbers (k ∷ ks)
numbers (time ∷ k ∷ ks) = false
numbers (text w ∷ k ∷ ks) = false
numbers (code set ∷ k ∷ ks) = false
numbers (subtype ∷ k ∷ ks) = false

cut : (strict : Bool) (ks : List Kind) (s : List ℕ) (at : ℕ) (acc : List ℕ) (go : List ℕ → ℕ → Answer) → T (numbers ks) → at ≤ length s
    → length s < at + widths ks → read_by strict ks s at acc go ≡ incomplete
cut strict [] s at acc go p l h = absurd (omega arith)
cut strict (k ∷ []) s at acc go p l h = rw (← short-by strict k s at (omega arith))
cut strict (num w ∷ k ∷ ks) s at acc go p l h =
    ⊎_elim
    (λ g. rw (← num-by strict w s at g refl) (cut strict (k ∷ ks) s (at + w) (acc ++ (be (part s at w) ∷ [])) go p g (omega arith)))
    (λ g. rw (← short-by strict (num w) s at g))
    (le-or-lt (at + w) (length s))
cut strict (time ∷ k ∷ ks) s at acc go p l h = absurd p
cut strict (text w ∷ k ∷ ks) s at acc go p l h = absurd p
cut strict (code set ∷ k ∷ ks) s at acc go p l h = absurd p
cut strict (subtype ∷ k ∷ ks) s at acc go p l h = absurd p

pub header-cut : (strict : Bool) (s : List ℕ) (go : List ℕ → ℕ → Answer) → length s < 13 → read_by strict header s 0 [] go ≡ incomplete
header-cut strict s go h = cut strict header s 0 [] go tt (omega arith) h

pub header-short : (s : List ℕ) → length s < 13 → incomplete ≡ header_of s
unfolding header_of
header-short s h = sym (header-cut false s (λ h. accepted (drop 1 h)) h)

field-time : (s : List ℕ) (at : ℕ) → at + 6 ≤ length s → field time s at ≡ got (be (part s at 6))
unfolding judge_by
field-time s at h = field-judged time s at h

-- the header's values, the length with them
pub header-reads : (s : List ℕ) → 13 ≤ length s → Reads s header 0 (be (part s 0 2) ∷ get_or s 2 0 ∷ be (part s 3 2) ∷ be (part s 5 2) ∷ be (part s 7 6) ∷ [])
header-reads s h =
    field-num 2 s 0 (omega arith) refl
    ⨾ field-num 1 s 2 (omega arith) (sym (be-one s 2 (omega arith)))
    ⨾ field-num 2 s 3 (omega arith) refl
    ⨾ field-num 2 s 5 (omega arith) refl
    ⨾ sym (field-time s 7 (omega arith))
    ⨾ end

-- strictly, with the time judged: what follows has the same values
pub header-strictly : (s : List ℕ) (go : List ℕ → ℕ → Answer) → 13 ≤ length s
    → read_by true header s 0 [] go
    ≡ cond (leb day (be (part s 7 6))) (refuses 4 7) (go (be (part s 0 2) ∷ get_or s 2 0 ∷ be (part s 3 2) ∷ be (part s 5 2) ∷ be (part s 7 6) ∷ []) 13)
unfolding judge_by
header-strictly s go h =
    rw (
      ← num-by true 2 s 0 (omega arith) refl,
      ← num-by true 1 s 2 (omega arith) (sym (be-one s 2 (omega arith))),
      ← num-by true 2 s 3 (omega arith) refl,
      ← num-by true 2 s 5 (omega arith) refl,
      judged-by true time s 7 h,
    ) (late (leb day (be (part s 7 6))))
  where
    v : List ℕ
    v = be (part s 0 2) ∷ get_or s 2 0 ∷ be (part s 3 2) ∷ be (part s 5 2) ∷ []

    late : (b : Bool) → step (placed 7 (cond b (wrong 4 0) (fine (be (part s 7 6))))) (λ x. go (v ++ (x ∷ [])) 13)
        ≡ cond b (refuses 4 7) (go (v ++ (be (part s 7 6) ∷ [])) 13)
    late true = refl
    late false = refl

-- tracking number and timestamp, read as one number of eight bytes
pub header-got : (s : List ℕ) {l v : ℕ} → Bytes s → 13 ≤ length s → l ≡ be (part s 3 2) → v ≡ be (part s 5 8)
    → accepted (get_or s 2 0 ∷ l ∷ v / 0x1000000000000 ∷ v % 0x1000000000000 ∷ []) 13 ≡ header_of s
unfolding header_of
header-got s {l} {v} b h p q =
    let w : be (part s 5 8) ≡ be (part s 5 2) * 256 ^ 6 + be (part s 7 6) = be-split s 5 2 6 h in
    let y : be (part s 7 6) < 256 ^ 6 = be-below s 7 6 b h in
    let d : v / 0x1000000000000 ≡ be (part s 5 2) = omega arith in
    let m : v % 0x1000000000000 ≡ be (part s 7 6) = omega arith in
    rw (p, d, m) (sym (reads (header-reads s h) [] (λ h. accepted (drop 1 h))))
