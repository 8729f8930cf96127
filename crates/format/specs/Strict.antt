-- The strict answer by way of the ordinary one, which is how the code has it: so no leaf and no body reads strictly. That it is the answer by the
-- judgement of `Layout` is shown in proofs/Strict.
-- Assumes nothing.
use Rattle.std.specs.Prelude.{ℕ, ◌+◌, min, Bool, false, cond, ◌&&◌, List, [], ◌∷◌, leb, ltb, eqb, length, get_or}
use Rattle.format.specs.Layout.{Kind, num, time, text, code, subtype, width, be, day, strays, first_stray, part, Answer, accepted, incomplete, refuses}
use Rattle.format.specs.Rows.{rows, find, fields_in}
use Rattle.format.specs.declared.Reading.{Reading}

-- a reading that is like this one, but not strict
abbrev pub ordinary : Reading → Reading
ordinary rd = record { edition = rd.edition; strict = false }

-- a field that is a text with a byte outside 20 to 7e
abbrev pub strayed : Kind → List ℕ → Bool
strayed (num w) bs = false
strayed time bs = false
strayed (text w) bs = strays bs
strayed (code set) bs = false
strayed subtype bs = false

-- the place of the first such byte, of the fields that end no later than `limit`; zero where there is none
abbrev pub stray_in : List Kind → List ℕ → ℕ → ℕ → ℕ
stray_in [] s at limit = 0
stray_in (k ∷ ks) s at limit =
    cond (strayed k (part s at (width k)) && leb (at + width k) limit) (at + first_stray (part s at (width k))) (stray_in ks s (at + width k) limit)

-- the fields of a tag's body, in any edition
unfoldable pub stray_of : ℕ → List ℕ → ℕ → ℕ
stray_of t s limit = stray_in (fields_in (find rows t)) s 13 limit

-- which fields count: those before a field that is refused, and else all that are there
abbrev pub limit_of : List ℕ → Answer → ℕ
limit_of s (accepted vs n) = length s
limit_of s incomplete = length s
limit_of s (refuses n p) = min p (length s)

-- 5 at a place, unless that is zero
abbrev pub settle : ℕ → Answer → Answer
settle p a = cond (eqb p 0) a (refuses 5 p)

-- what the strict reading makes of the ordinary answer a: nothing of it where the header is not there; else 4, then 5
abbrev pub stricter : List ℕ → Answer → Answer
stricter s a =
    cond (ltb (length s) 13) a (cond (leb day (be (part s 7 6))) (refuses 4 7) (settle (stray_of (get_or s 2 0) s (limit_of s a)) a))
