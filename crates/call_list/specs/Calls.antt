-- Lists of single calls. A list is calls, one behind the other. A call is 17 numbers of eight bytes, high byte first, then A's explicit bytes, then B's.
-- The numbers: which call, and 100 more where it is made by the later edition, 200 more where by a strict reading; eight of its own; A's length, fill, place and
-- count of explicit bytes; B's. A fill of 0 is zeros, any other f puts (i mod 251 + f) mod 256 at place i; the explicit bytes stand over the fill. oracle/calls
-- makes such lists.
-- Assumes nothing.
use Rattle.std.specs.Prelude.{ℕ, zero, suc, ◌+◌, ◌-◌, ◌*◌, ◌/◌, ◌%◌, min, cond, ◌&&◌, List, [], ◌∷◌, ◌++◌, leb, ltb, eqb, length, get_or, take, drop}
use Rattle.format.specs.Layout.{Got, got, short, refused, field, num}
use Rattle.text.specs.Decimal.{decimal_of}
use Rattle.format.specs.declared.Edition.TheVariants.{Old, Later}
use Rattle.format.specs.declared.Reading.{Reading}
use Rattle.call_list.specs.declared.Asked.{Asked}

-- the value of a number that was read; 0 where the list has not all of its bytes
abbrev pub value_in : Got → ℕ
value_in (got v) = v
value_in short = 0
value_in (refused n p) = 0

-- the first n numbers of the call that t begins with
unfoldable pub asks_of : List ℕ → ℕ → List ℕ
asks_of t zero = []
asks_of t (suc n) = asks_of t n ++ (value_in (field (num 8) t (8 * n)) ∷ [])

-- one of the 17
abbrev pub ask_of : List ℕ → ℕ → ℕ
ask_of t k = get_or (asks_of t 17) k 0

-- what stands behind the numbers, behind A's explicit bytes, and behind the call
abbrev pub from_a : List ℕ → List ℕ
from_a t = drop 136 t

abbrev pub from_b : List ℕ → List ℕ
from_b t = drop (ask_of t 12) (from_a t)

abbrev pub from_next : List ℕ → List ℕ
from_next t = drop (ask_of t 16) (from_b t)

-- the byte at place i of bytes with the fill f and the explicit bytes e from place p on; and the first n of them
abbrev pub fill_of : ℕ → ℕ → ℕ
fill_of f i = cond (eqb f 0) 0 ((i % 251 + f) % 256)

unfoldable pub byte_at : ℕ → ℕ → List ℕ → ℕ → ℕ
byte_at f p e i = cond (leb p i && ltb i (p + length e)) (get_or e (i - p) 0) (fill_of f i)

unfoldable pub made_of : ℕ → ℕ → List ℕ → ℕ → List ℕ
made_of f p e zero = []
made_of f p e (suc n) = made_of f p e n ++ (byte_at f p e n ∷ [])

-- the first n bytes of A and of B, of the call that t begins with
abbrev pub bytes_a : List ℕ → ℕ → List ℕ
bytes_a t n = made_of (ask_of t 10) (ask_of t 11) (take (ask_of t 12) (from_a t)) n

abbrev pub bytes_b : List ℕ → ℕ → List ℕ
bytes_b t n = made_of (ask_of t 14) (ask_of t 15) (take (ask_of t 16) (from_b t)) n

-- the call at a place of a list, for rooms of so many bytes: its numbers, the lengths of A and of B, cut to the rooms, and the place behind it
abbrev pub asked_of : List ℕ → ℕ → ℕ → ℕ → Asked
asked_of list at room_a room_b =
    let t = drop at list in
    record { v = asks_of t 17; na = min (ask_of t 9) room_a; nb = min (ask_of t 13) room_b; next = length list - length (from_next t) }

-- the reading that the hundreds of a call's first number say: 0 by the old edition, 1 by the later one, 2 and 3 by them strictly
abbrev pub reading_for : ℕ → Reading
reading_for n = record { edition = cond (eqb (n / 100 % 2) 0) Old Later; strict = leb 200 n }

-- the sum of bytes, before it is cut to 32 bits: each counts, one more than it is, as often as there are bytes from it on
unfoldable pub weight_of : List ℕ → ℕ
weight_of [] = 0
weight_of (b ∷ t) = (b + 1) * length (b ∷ t) + weight_of t

-- numbers in decimal, each behind a space
unfoldable pub spaced_of : List ℕ → List ℕ
spaced_of [] = []
spaced_of (n ∷ ns) = (32 ∷ decimal_of n) ++ spaced_of ns
