-- The layouts: the header, the 21 rows of the old edition and the two that the later one adds, and what reading one window answers.
-- Assumes nothing.
use Rattle.std.specs.Prelude.{ℕ, List, [], ◌∷◌, ◌++◌, Bool, false, cond, eqb, get_or, drop}
use Rattle.format.specs.Ascii.{'A', 'B', 'C', 'D', 'E', 'F', 'H', 'I', 'J', 'K', 'L', 'N', 'O', 'P', 'Q', 'R', 'S', 'U', 'V', 'W', 'X', 'Y', 'h'}
use Rattle.format.specs.Codes.{side, yes_no, trading_state, direction, imbalance_cross, qualifier, maker_mode, participant_state, interest, cross, category, status, class, authenticity, flag, tier, etp_flag, event, level, action, market, halt}
use Rattle.format.specs.declared.Edition.{Edition}
use Rattle.format.specs.declared.Edition.TheVariants.{Old, Later}
use Rattle.format.specs.declared.Reading.{Reading}
use Rattle.format.specs.Layout.{Kind, num, time, text, code, subtype, Answer, accepted, refuses, read, read_by}

-- a tag, its size from the tag on, and the fields of its body
pub record Row : Type 0 where
  pub tag : ℕ
  pub size : ℕ
  pub body : List Kind

abbrev pub row : ℕ → ℕ → List Kind → Row
row t n ks = record { tag = t; size = n; body = ks }

-- what A, F and P begin with: reference, side, shares, stock, price
abbrev pub order : List Kind
order = num 8 ∷ code side ∷ num 4 ∷ text 8 ∷ num 4 ∷ []

-- what C and E begin with: reference, executed, match number
abbrev pub execution : List Kind
execution = num 8 ∷ num 4 ∷ num 8 ∷ []

-- the old edition's
abbrev pub base : List Row
base =
    -- add order: as above; with mpid
    row 'A' 36 order
    ∷ row 'F' 40 (order ++ (text 4 ∷ []))
    -- broken trade: match number; delete order: reference
    ∷ row 'B' 19 (num 8 ∷ [])
    ∷ row 'D' 19 (num 8 ∷ [])
    -- order executed with price: as E, then printable, price
    ∷ row 'C' 36 (execution ++ (code yes_no ∷ num 4 ∷ []))
    -- order executed: as above
    ∷ row 'E' 31 execution
    -- trading action: stock, state, reserved, reason
    ∷ row 'H' 25 (text 8 ∷ code trading_state ∷ num 1 ∷ text 4 ∷ [])
    -- imbalance: paired, imbalance, direction, stock, far, near, reference price, cross, variation
    ∷ row 'I' 50 (num 8 ∷ num 8 ∷ code direction ∷ text 8 ∷ num 4 ∷ num 4 ∷ num 4 ∷ code imbalance_cross ∷ num 1 ∷ [])
    -- LULD auction collar: stock, three prices, extension
    ∷ row 'J' 35 (text 8 ∷ num 4 ∷ num 4 ∷ num 4 ∷ num 4 ∷ [])
    -- IPO quoting period: stock, release time, qualifier, price
    ∷ row 'K' 28 (text 8 ∷ num 4 ∷ code qualifier ∷ num 4 ∷ [])
    -- participant position: mpid, stock, primary, mode, state
    ∷ row 'L' 26 (text 4 ∷ text 8 ∷ code yes_no ∷ code maker_mode ∷ code participant_state ∷ [])
    -- retail price improvement: stock, interest
    ∷ row 'N' 20 (text 8 ∷ code interest ∷ [])
    -- trade: as A, then match number
    ∷ row 'P' 44 (order ++ (num 8 ∷ []))
    -- cross trade: shares, stock, price, match number, cross
    ∷ row 'Q' 40 (num 8 ∷ text 8 ∷ num 4 ∷ num 8 ∷ code cross ∷ [])
    -- stock directory: stock, category, status, round lot, lots only, class, subtype, authenticity, short sale, IPO, LULD tier, ETP,
    -- leverage, inverse
    ∷ row 'R' 39
    (text 8 ∷ code category ∷ code status ∷ num 4 ∷ code yes_no ∷ code class ∷ subtype ∷ code authenticity ∷ code flag ∷ code flag
    ∷ code tier ∷ code etp_flag ∷ num 4 ∷ code yes_no ∷ [])
    -- system event: event
    ∷ row 'S' 12 (code event ∷ [])
    -- replace order: old reference, new reference, shares, price
    ∷ row 'U' 35 (num 8 ∷ num 8 ∷ num 4 ∷ num 4 ∷ [])
    -- MWCB decline levels: three levels
    ∷ row 'V' 35 (num 8 ∷ num 8 ∷ num 8 ∷ [])
    -- MWCB breach: level
    ∷ row 'W' 12 (code level ∷ [])
    -- order cancelled: reference, cancelled
    ∷ row 'X' 23 (num 8 ∷ num 4 ∷ [])
    -- Reg SHO restriction: stock, action
    ∷ row 'Y' 20 (text 8 ∷ code action ∷ [])
    ∷ []

-- those that the later edition adds
abbrev pub added : List Row
added =
    -- operational halt: stock, market code, action
    row 'h' 21 (text 8 ∷ code market ∷ code halt ∷ [])
    -- direct listing with capital raise: stock, open eligibility, minimum price, maximum price, near execution price, near execution time,
    -- lower collar, upper collar
    ∷ row 'O' 48 (text 8 ∷ code yes_no ∷ num 4 ∷ num 4 ∷ num 4 ∷ num 8 ∷ num 4 ∷ num 4 ∷ [])
    ∷ []

-- all rows, whatever the edition: no tag has two
abbrev pub rows : List Row
rows = base ++ added

-- the rows that an edition adds, and those of a reading
abbrev pub later : Edition → List Row
later Old = []
later Later = added

abbrev pub rows_in : Reading → List Row
rows_in rd = base ++ later rd.edition

-- the row of a tag, if there is one
pub data Found : Type 0 where
  found : Row → Found
  none : Found

abbrev pub find : List Row → ℕ → Found
find [] t = none
find (r ∷ rs) t = cond (eqb r.tag t) (found r) (find rs t)

-- the fields of a tag's body, none where no tag is
abbrev pub fields_in : Found → List Kind
fields_in (found r) = r.body
fields_in none = []

-- a tag's size, zero where no tag is
abbrev pub size_in : Found → ℕ
size_in (found r) = r.size
size_in none = 0

unfoldable pub size_of : ℕ → ℕ
size_of t = size_in (find rows t)

-- a tag's size by a reading, zero where the reading has no such tag
unfoldable pub size_by : Reading → ℕ → ℕ
size_by rd t = size_in (find (rows_in rd) t)

-- a body under its tag's row, after the values vs: an unknown tag is refusal 1 at place 2
abbrev pub under_by : Bool → Found → List ℕ → ℕ → List ℕ → Answer
under_by strict (found r) s at vs = read_by strict r.body s at vs accepted
under_by strict none s at vs = refuses 1 2

-- the same in the ordinary reading
abbrev pub under : Found → List ℕ → ℕ → List ℕ → Answer
under = under_by false

-- the 13 bytes before a body: length, tag, locate, tracking number, timestamp
abbrev pub header : List Kind
header = num 2 ∷ num 1 ∷ num 2 ∷ num 2 ∷ time ∷ []

-- what follows the header's values h: the tag is judged, after the time, then the body's fields. The length is ignored. The values are tag, locate,
-- tracking number and timestamp, then the tag once more, which tells apart the bodies of like fields (D and B), then the body's
abbrev pub message : Reading → List ℕ → List ℕ → ℕ → Answer
message rd s h at = under_by rd.strict (find (rows_in rd) (get_or h 1 0)) s at (drop 1 h ++ (get_or h 1 0 ∷ []))

-- what reading a window answers
unfoldable pub window : Reading → List ℕ → Answer
window rd s = read_by rd.strict header s 0 [] (message rd s)

-- the parts of the ordinary answer which the code reads by functions of their own: the header without its length; the body of a tag, in any edition
-- and in that of a reading; and the body of a tag that an edition adds
unfoldable pub header_of : List ℕ → Answer
header_of s = read header s 0 [] (λ h. accepted (drop 1 h))

unfoldable pub body_of : ℕ → List ℕ → Answer
body_of t s = under (find rows t) s 13 (t ∷ [])

unfoldable pub body_in : Reading → ℕ → List ℕ → Answer
body_in rd t s = under (find (rows_in rd) t) s 13 (t ∷ [])

unfoldable pub body_later : Edition → ℕ → List ℕ → Answer
body_later e t s = under (find (later e) t) s 13 (t ∷ [])
