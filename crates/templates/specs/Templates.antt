-- The text of a template and its values. A template's bytes are put as they are, but for the places, which stand in braces and where the next value is
-- put: {n} is its decimal; {8}, {4} and {1} are its last eight, four and one bytes as text; any other place lists names, each behind its code and `=`
-- and before a comma, as {B=Buy,S=Sell,}: the name of the value is put. {. ends the template, and so does a place that has no value or no
-- name for its value.
-- Assumes nothing.
use Rattle.std.specs.Prelude.{ℕ, zero, suc, ◌+◌, ◌-◌, ◌*◌, ◌/◌, ◌%◌, ◌^◌, Bool, cond, not, ◌&&◌, ◌||◌, List, [], ◌∷◌, ◌++◌, leb, ltb, eqb, length, get_or, drop}
use Rattle.text.specs.Decimal.{decimal_of}

-- the bytes that the definitions name: { } . , = and the backslash; and letters
abbrev pub brace : ℕ
brace = 0x7b

abbrev pub closing : ℕ
closing = 0x7d

abbrev pub dot : ℕ
dot = 0x2e

abbrev pub comma : ℕ
comma = 0x2c

abbrev pub equals : ℕ
equals = 0x3d

abbrev pub backslash : ℕ
backslash = 0x5c

abbrev pub '4' : ℕ
'4' = 0x34

abbrev pub '8' : ℕ
'8' = 0x38

abbrev pub 'n' : ℕ
'n' = 0x6e

abbrev pub 'x' : ℕ
'x' = 0x78

-- the bytes before the first that is m, and those from it on
unfoldable pub until : ℕ → List ℕ → List ℕ
until m [] = []
until m (b ∷ t) = cond (eqb b m) [] (b ∷ until m t)

unfoldable pub from : ℕ → List ℕ → List ℕ
from m [] = []
from m (b ∷ t) = cond (eqb b m) (b ∷ t) (from m t)

-- those behind it
abbrev pub past : ℕ → List ℕ → List ℕ
past m t = drop 1 (from m t)

-- a byte of a text: as it is from 0x20 to 0x7e, but for the backslash; any other as \xHH
abbrev pub hex_of : ℕ → ℕ
hex_of n = cond (ltb n 10) (48 + n) (87 + n)

unfoldable pub stays : ℕ → Bool
stays b = leb 32 b && (leb b 126 && not (eqb b backslash))

unfoldable pub shown_of : ℕ → List ℕ
shown_of b = cond (stays b) (b ∷ []) (backslash ∷ 'x' ∷ hex_of (b / 16) ∷ hex_of (b % 16) ∷ [])

-- the last n bytes of a number
unfoldable pub letters_of : ℕ → ℕ → List ℕ
letters_of zero v = []
letters_of (suc n) v = shown_of (v / 2 ^ (8 * n) % 256) ++ letters_of n v

-- how many bytes a letter stands for
unfoldable pub width_of : ℕ → ℕ
width_of k = cond (eqb k '8') 8 (cond (eqb k '4') 4 1)

unfoldable pub letter_of : ℕ → ℕ → List ℕ
letter_of k v = cond (eqb k 'n') (decimal_of v) (letters_of (width_of k) v)

-- from the name of a code on: behind the first `=` before which the code stands, of one byte or two; nothing where the braces close before.
-- `last` is the two bytes before t
abbrev pub is_name : ℕ → ℕ → ℕ → Bool
is_name v last b = eqb b equals && (eqb last v || eqb (last % 256) v)

unfoldable pub name_of : ℕ → ℕ → List ℕ → List ℕ
name_of v last [] = []
name_of v last (b ∷ t) =
    let rest = name_of v (last % 256 * 256 + b) t in
    cond (eqb b closing) [] (cond (is_name v last b) t rest)

-- a place, from behind its opening brace on: whether it is a letter alone; the text of a value; and what stands behind it
abbrev pub is_letter : List ℕ → Bool
is_letter p = eqb (get_or p 1 0) closing

unfoldable pub value_of : List ℕ → ℕ → List ℕ
value_of p v = cond (is_letter p) (letter_of (get_or p 0 0) v) (until comma (name_of v 0 p))

unfoldable pub behind_of : List ℕ → ℕ → List ℕ
behind_of p v = cond (is_letter p) (drop 2 p) (past closing (from comma (name_of v 0 p)))

-- the text of the template that t begins with
unfoldable pub filled_of : List ℕ → List ℕ → List ℕ
filled_of t [] = until brace t
filled_of t (v ∷ vs) =
    let p = past brace t in
    let rest = filled_of (behind_of p v) vs in
    until brace t ++ cond (eqb (get_or p 0 dot) dot) [] (value_of p v ++ rest)

-- templates in a table, one behind the other: what stands from the k-th on, the place where it begins, and these places of the first n
unfoldable pub template_of : List ℕ → ℕ → List ℕ
template_of table zero = table
template_of table (suc k) = past dot (template_of table k)

unfoldable pub begin_of : List ℕ → ℕ → ℕ
begin_of table k = length table - length (template_of table k)

unfoldable pub starts_of : List ℕ → ℕ → List ℕ
starts_of table zero = []
starts_of table (suc n) = starts_of table n ++ (begin_of table n ∷ [])
