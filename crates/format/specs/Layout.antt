-- What reading a row of fields answers. A row is a list of field kinds, and one interpreter, `read_by`, takes its fields in order, strictly or not.
-- Assumes nothing.
use Rattle.std.specs.Prelude.{ℕ, suc, ◌+◌, ◌*◌, List, [], ◌∷◌, ◌++◌, Bool, false, cond, ◌||◌, ◌&&◌, leb, ltb, eqb, length, take, drop}
use Rattle.format.specs.Codes.{subtypes}
use Rattle.format.specs.Utf8.{well_formed, first_bad}

-- a field: a number of w bytes; the timestamp; a text of w bytes; a code of a set; the issue subtype
pub data Kind : Type 0 where
  num : ℕ → Kind
  time : Kind
  text : ℕ → Kind
  code : List ℕ → Kind
  subtype : Kind

abbrev pub width : Kind → ℕ
width (num w) = w
width time = 6
width (text w) = w
width (code set) = 1
width subtype = 2

-- the bytes of a row
abbrev pub widths : List Kind → ℕ
widths [] = 0
widths (k ∷ ks) = width k + widths ks

-- big-endian: the number that bytes are, after a number before them
abbrev pub be_from : ℕ → List ℕ → ℕ
be_from v [] = v
be_from v (b ∷ bs) = be_from (v * 256 + b) bs

abbrev pub be : List ℕ → ℕ
be bs = be_from 0 bs

abbrev pub member : ℕ → List ℕ → Bool
member b [] = false
member b (x ∷ xs) = eqb b x || member b xs

-- what a field's bytes are judged to be: the value that it gives; or a refusal's number, and its place counted from the field's first byte
pub data Verdict : Type 0 where
  fine : ℕ → Verdict
  wrong : ℕ → ℕ → Verdict

-- a day, in nanoseconds
abbrev pub day : ℕ
day = 86400000000000

-- a text with a byte outside 20 to 7e, and how many bytes stand before the first such one
abbrev pub outside : ℕ → Bool
outside b = ltb b 0x20 || ltb 0x7e b

unfoldable pub strays : List ℕ → Bool
strays [] = false
strays (b ∷ bs) = outside b || strays bs

unfoldable pub first_stray : List ℕ → ℕ
first_stray [] = 0
first_stray (b ∷ bs) = cond (outside b) 0 (suc (first_stray bs))

-- the judgement of each kind of field: an illegal code is 2, at the field's first byte; a text that is not UTF-8 is 3, where its first bad sequence begins.
-- Strictly, a time of a day or more is 4, at its first byte, and a text with a byte outside 20 to 7e is, right after 3, 5 at the first such byte
unfoldable pub judge_by : Bool → Kind → List ℕ → Verdict
judge_by strict (num w) bs = fine (be bs)
judge_by strict time bs = cond (strict && leb day (be bs)) (wrong 4 0) (fine (be bs))
judge_by strict (text w) bs =
    cond (well_formed bs) (cond (strict && strays bs) (wrong 5 (first_stray bs)) (fine (be bs))) (wrong 3 (first_bad bs))
judge_by strict (code set) bs = cond (member (be bs) set) (fine (be bs)) (wrong 2 0)
judge_by strict subtype bs = cond (member (be bs) subtypes) (fine (be bs)) (wrong 2 0)

-- what a field answers: its value; not all of its bytes are there; refused, with number and place
pub data Got : Type 0 where
  got : ℕ → Got
  short : Got
  refused : ℕ → ℕ → Got

abbrev pub placed : ℕ → Verdict → Got
placed at (fine v) = got v
placed at (wrong n o) = refused n (at + o)

-- the w bytes from a place on
abbrev pub part : List ℕ → ℕ → ℕ → List ℕ
part s at w = take w (drop at s)

-- a field at a place of a window: judged as soon as its last byte is there
unfoldable pub field_by : Bool → Kind → List ℕ → ℕ → Got
field_by strict k s at = cond (leb (at + width k) (length s)) (placed at (judge_by strict k (part s at (width k)))) short

-- what reading a window answers: accepted, with all values and the bytes consumed; incomplete; refused, with number and place
pub data Answer : Type 0 where
  accepted : List ℕ → ℕ → Answer
  incomplete : Answer
  refuses : ℕ → ℕ → Answer

-- a field's value goes on; a field that is short makes the window incomplete; the first bad field gives the refusal
abbrev pub step : Got → (ℕ → Answer) → Answer
step (got v) go = go v
step short go = incomplete
step (refused n p) go = refuses n p

-- the fields in order, from a place on, after the values vs; then `go` has all the values and the place behind the last field
abbrev pub read_by : Bool → List Kind → List ℕ → ℕ → List ℕ → (List ℕ → ℕ → Answer) → Answer
read_by strict [] s at vs go = go vs at
read_by strict (k ∷ ks) s at vs go = step (field_by strict k s at) (λ v. read_by strict ks s (at + width k) (vs ++ (v ∷ [])) go)

-- the same in the ordinary reading: what the leaves and the bodies answer
abbrev pub judge : Kind → List ℕ → Verdict
judge = judge_by false

abbrev pub field : Kind → List ℕ → ℕ → Got
field = field_by false

abbrev pub read : List Kind → List ℕ → ℕ → List ℕ → (List ℕ → ℕ → Answer) → Answer
read = read_by false
