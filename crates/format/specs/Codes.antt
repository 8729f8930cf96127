-- The legal codes of the layouts, each set under its name, in the order of the rows that use them, and the 58 issue subtypes.
-- Assumes nothing.
use Rattle.std.specs.Prelude.{ℕ, ◌+◌, ◌*◌, List, [], ◌∷◌}
use Rattle.format.specs.Ascii.{'␣', '0', '1', '2', '3', 'A', 'B', 'C', 'D', 'E', 'F', 'G', 'H', 'I', 'J', 'K', 'L', 'M', 'N', 'O', 'P', 'Q', 'R', 'S', 'T', 'U', 'V', 'W', 'X', 'Y', 'Z'}

-- A, F, P: side
unfoldable pub side : List ℕ
side = 'B' ∷ 'S' ∷ []

-- C: printable; L: primary; O: open eligibility; R: lots only, inverse
unfoldable pub yes_no : List ℕ
yes_no = 'Y' ∷ 'N' ∷ []

-- H: state
unfoldable pub trading_state : List ℕ
trading_state = 'H' ∷ 'P' ∷ 'Q' ∷ 'T' ∷ []

-- I: direction
unfoldable pub direction : List ℕ
direction = 'B' ∷ 'S' ∷ 'N' ∷ 'O' ∷ []

-- I: cross
unfoldable pub imbalance_cross : List ℕ
imbalance_cross = 'O' ∷ 'C' ∷ 'H' ∷ 'A' ∷ []

-- K: qualifier
unfoldable pub qualifier : List ℕ
qualifier = 'A' ∷ 'C' ∷ []

-- L: mode
unfoldable pub maker_mode : List ℕ
maker_mode = 'N' ∷ 'P' ∷ 'S' ∷ 'R' ∷ 'L' ∷ []

-- L: state
unfoldable pub participant_state : List ℕ
participant_state = 'A' ∷ 'E' ∷ 'W' ∷ 'S' ∷ 'D' ∷ []

-- N: interest
unfoldable pub interest : List ℕ
interest = 'B' ∷ 'S' ∷ 'A' ∷ 'N' ∷ []

-- Q: cross. One code more than I has
unfoldable pub cross : List ℕ
cross = 'O' ∷ 'C' ∷ 'H' ∷ 'I' ∷ 'A' ∷ []

-- R: category
unfoldable pub category : List ℕ
category = 'Q' ∷ 'G' ∷ 'S' ∷ 'N' ∷ 'A' ∷ 'P' ∷ 'Z' ∷ 'V' ∷ '␣' ∷ []

-- R: status
unfoldable pub status : List ℕ
status = 'N' ∷ 'D' ∷ 'E' ∷ 'Q' ∷ 'S' ∷ 'G' ∷ 'H' ∷ 'J' ∷ 'K' ∷ 'C' ∷ '␣' ∷ []

-- R: class
unfoldable pub class : List ℕ
class = 'A' ∷ 'B' ∷ 'C' ∷ 'F' ∷ 'I' ∷ 'L' ∷ 'N' ∷ 'O' ∷ 'P' ∷ 'Q' ∷ 'R' ∷ 'S' ∷ 'T' ∷ 'U' ∷ 'V' ∷ 'W' ∷ []

-- R: authenticity
unfoldable pub authenticity : List ℕ
authenticity = 'P' ∷ 'T' ∷ []

-- R: short sale, IPO
unfoldable pub flag : List ℕ
flag = 'Y' ∷ 'N' ∷ '␣' ∷ []

-- R: LULD tier
unfoldable pub tier : List ℕ
tier = '␣' ∷ '1' ∷ '2' ∷ []

-- R: ETP
unfoldable pub etp_flag : List ℕ
etp_flag = 'Y' ∷ 'N' ∷ '␣' ∷ 'M' ∷ []

-- S: event
unfoldable pub event : List ℕ
event = 'O' ∷ 'S' ∷ 'Q' ∷ 'M' ∷ 'E' ∷ 'C' ∷ []

-- W: level
unfoldable pub level : List ℕ
level = '1' ∷ '2' ∷ '3' ∷ []

-- Y: action
unfoldable pub action : List ℕ
action = '0' ∷ '1' ∷ '2' ∷ []

-- h: market code
unfoldable pub market : List ℕ
market = 'Q' ∷ 'B' ∷ 'X' ∷ []

-- h: action
unfoldable pub halt : List ℕ
halt = 'H' ∷ 'T' ∷ []

-- all of them, in the order in which the bits of a mask count them
abbrev pub sets : List (List ℕ)
sets =
    side ∷ yes_no ∷ trading_state ∷ direction ∷ imbalance_cross
    ∷ qualifier ∷ maker_mode ∷ participant_state ∷ interest ∷ cross
    ∷ category ∷ status ∷ class ∷ authenticity ∷ flag
    ∷ tier ∷ etp_flag ∷ event ∷ level ∷ action ∷ market ∷ halt ∷ []

-- a code of two bytes, as the number that they are
abbrev pub pair : ℕ → ℕ → ℕ
pair a b = a * 256 + b

-- R: subtype
unfoldable pub subtypes : List ℕ
subtypes =
    pair 'A' '␣' ∷ pair 'A' 'I'
    ∷ pair 'B' '␣'
    ∷ pair 'C' '␣' ∷ pair 'C' 'B' ∷ pair 'C' 'F' ∷ pair 'C' 'L' ∷ pair 'C' 'M' ∷ pair 'C' 'O' ∷ pair 'C' 'T' ∷ pair 'C' 'U' ∷ pair 'C' 'W'
    ∷ pair 'D' '␣'
    ∷ pair 'E' '␣' ∷ pair 'E' 'G' ∷ pair 'E' 'I' ∷ pair 'E' 'M' ∷ pair 'E' 'N' ∷ pair 'E' 'U'
    ∷ pair 'F' '␣' ∷ pair 'F' 'I' ∷ pair 'F' 'L'
    ∷ pair 'G' '␣'
    ∷ pair 'I' '␣' ∷ pair 'I' 'R' ∷ pair 'I' 'W' ∷ pair 'I' 'X'
    ∷ pair 'J' '␣'
    ∷ pair 'L' '␣' ∷ pair 'L' 'L'
    ∷ pair 'M' '␣' ∷ pair 'M' 'F' ∷ pair 'M' 'L' ∷ pair 'M' 'T'
    ∷ pair 'N' '␣'
    ∷ pair 'O' '␣'
    ∷ pair 'P' '␣' ∷ pair 'P' 'P' ∷ pair 'P' 'U'
    ∷ pair 'Q' '␣'
    ∷ pair 'R' '␣' ∷ pair 'R' 'C' ∷ pair 'R' 'F' ∷ pair 'R' 'T' ∷ pair 'R' 'U'
    ∷ pair 'S' '␣' ∷ pair 'S' 'C' ∷ pair 'S' 'I'
    ∷ pair 'T' '␣' ∷ pair 'T' 'C' ∷ pair 'T' 'U'
    ∷ pair 'U' '␣'
    ∷ pair 'V' '␣'
    ∷ pair 'W' '␣' ∷ pair 'W' 'C'
    ∷ pair 'X' '␣'
    ∷ pair 'Y' '␣'
    ∷ pair 'Z' '␣' ∷ []
