-- What `frames` prints, as bytes. Where `quiet`, the lines of accepted frames are left out; those of refused frames and the closing lines stay.
-- Assumes nothing.
use Rattle.std.specs.Prelude.{ℕ, ◌+◌, ◌-◌, Bool, false, cond, List, [], ◌∷◌, ◌++◌, length, Ok, Err}
use Rattle.walk.specs.Walk.{Verdict}
use Rattle.text.specs.Decimal.{decimal_of, behind}
use Rattle.walk.specs.Frames.{Entry, Walked, accepts}

-- ` ok `, ` refused `, `tail `, `total `
abbrev pub ok_text : List ℕ
ok_text = 32 ∷ 111 ∷ 107 ∷ 32 ∷ []

abbrev pub refused_text : List ℕ
refused_text = 32 ∷ 114 ∷ 101 ∷ 102 ∷ 117 ∷ 115 ∷ 101 ∷ 100 ∷ 32 ∷ []

abbrev pub tail_text : List ℕ
tail_text = 116 ∷ 97 ∷ 105 ∷ 108 ∷ 32 ∷ []

abbrev pub total_text : List ℕ
total_text = 116 ∷ 111 ∷ 116 ∷ 97 ∷ 108 ∷ 32 ∷ []

-- behind a frame's offset
unfoldable pub accepted_of : ℕ → ℕ → List ℕ
accepted_of tag size = ok_text ++ (tag ∷ 32 ∷ []) ++ behind size 10

unfoldable pub refused_of : ℕ → ℕ → List ℕ
refused_of number place = refused_text ++ behind number 32 ++ behind place 10

abbrev pub answer_of : Verdict → ℕ → List ℕ
answer_of (Ok m) size = accepted_of m.tag size
answer_of (Err r) size = refused_of r.number r.place

-- whether a frame's line is left out
abbrev pub silent_of : Bool → Verdict → Bool
silent_of quiet (Ok m) = quiet
silent_of quiet (Err r) = false

unfoldable pub line_of : Bool → Entry → List ℕ
line_of quiet e = cond (silent_of quiet e.what) [] (decimal_of e.at ++ answer_of e.what e.size)

unfoldable pub lines_of : Bool → List Entry → List ℕ
lines_of quiet [] = []
lines_of quiet (e ∷ es) = line_of quiet e ++ lines_of quiet es

-- the tail's offset and length
unfoldable pub tail_of : ℕ → ℕ → List ℕ
tail_of offset left = tail_text ++ behind offset 32 ++ behind left 10

-- frames, accepted, refused and bytes
unfoldable pub total_of : ℕ → ℕ → ℕ → ℕ → List ℕ
total_of frames accepted refused bytes =
    total_text ++ (behind frames 32 ++ (behind accepted 32 ++ (behind refused 32 ++ behind bytes 10)))

abbrev pub closing_of : ℕ → ℕ → ℕ → ℕ → List ℕ
closing_of offset left frames accepted = tail_of offset left ++ total_of frames accepted (frames - accepted) (offset + left)

-- the whole output on a recording whose walk is r
unfoldable pub text_of : Bool → Walked → List ℕ
text_of quiet r = lines_of quiet r.entries ++ closing_of r.tail r.left (length r.entries) (accepts r.entries)
