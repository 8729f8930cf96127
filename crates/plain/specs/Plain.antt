-- The plain messages: of a body of numbers nothing can be refused, and of an order only its side and its stock. The rule of the table that has them,
-- and the test by a table; and that test made strict, which looks at the time and at the stock's bytes, too.
-- Assumes nothing.
use Rattle.std.specs.Prelude.{ℕ, ◌+◌, ◌*◌, ◌/◌, ◌%◌, ◌^◌, ◌<◌, ◌≡◌, Bool, true, false, cond, ◌&&◌, List, [], ◌∷◌, leb, ltb, eqb, length, get_or}
use Rattle.std.specs.Int.Bits.{bit_and}
use Rattle.format.specs.Codes.{side}
use Rattle.format.specs.Layout.{Kind, num, time, text, code, subtype, member, be, day, part}
use Rattle.format.specs.Rows.{Found, found, none, find}
use Rattle.format.specs.Rows as Rows

-- two sets, code by code
abbrev pub same : List ℕ → List ℕ → Bool
same [] [] = true
same [] (y ∷ ys) = false
same (x ∷ xs) [] = false
same (x ∷ xs) (y ∷ ys) = eqb x y && same xs ys

-- fields, from a place on, that are numbers; with an order's they may be a side at 21 and a text of 8 bytes at 26, too
abbrev pub light : Bool → List Kind → ℕ → Bool
light order [] at = true
light order (num w ∷ ks) at = light order ks (at + w)
light order (time ∷ ks) at = false
light order (text w ∷ ks) at = (order && (eqb at 26 && eqb w 8)) && light order ks (at + w)
light order (code set ∷ ks) at = (order && (eqb at 21 && same set side)) && light order ks (at + 1)
light order (subtype ∷ ks) at = false

-- for a tag, the place behind its message, with 256 for a body of numbers and 2^63 for an order's; zero for any other body
abbrev pub ends : Found → ℕ
ends (found r) = cond (light false r.body 13) (256 + (2 + r.size)) (cond (light true r.body 13) (2 ^ 63 + (2 + r.size)) 0)
ends none = 0

-- the rule of the table, of the rows that every edition has: what a byte is as a tag, and 512 where it is a legal side
unfoldable pub row_of : ℕ → ℕ
row_of b = ends (find Rows.base b) + cond (member b side) 512 0

-- the table of a reading: for a strict one it is zero, so that nothing is plain by it
abbrev pub Table : Bool → List ℕ → Type 0
Table strict rows = (b : ℕ) → b < 256 → get_or rows b 0 ≡ cond strict 0 (row_of b)

-- the place behind a message: r is the row of its tag, c that of byte 21, and `stock` the number at 26, which has no high bit where it is ASCII
abbrev pub end_by : ℕ → ℕ → ℕ → ℕ
end_by r c stock =
    cond (eqb (r / 256 % 2 + r / 2 ^ 63 * (c / 512 % 2)) 0) 0
    (cond (eqb (bit_and stock (r / 2 ^ 63 * 0x8080808080808080)) 0) (r % 128) 0)

-- zero where the message in front is no plain one, or the window is below 52 bytes
unfoldable pub plain_of : List ℕ → List ℕ → ℕ
plain_of w rows =
    cond (leb 52 (length w)) (end_by (get_or rows (get_or w 2 0) 0) (get_or rows (get_or w 21 0) 0) (be (part w 26 8))) 0

-- whether a strict reading takes it, too: v is the number at 5, whose last six bytes are the time, and r the row of its tag. Of an order's stock, whose
-- bytes are below 80, none rises to 80 with 01 added, and each does with 60
abbrev pub tight_by : ℕ → ℕ → ℕ → Bool
tight_by v r stock =
    ltb (v % 2 ^ 48) day
    && (eqb (bit_and (bit_and stock 0x7f7f7f7f7f7f7f7f + 0x0101010101010101) (r / 2 ^ 63 * 0x8080808080808080)) 0
    && eqb (bit_and (bit_and stock 0x7f7f7f7f7f7f7f7f + 0x6060606060606060) (r / 2 ^ 63 * 0x8080808080808080)) (r / 2 ^ 63 * 0x8080808080808080))

-- zero where the message in front is no plain one that a strict reading takes
unfoldable pub strictly_of : List ℕ → List ℕ → ℕ
strictly_of w rows = cond (tight_by (be (part w 5 8)) (get_or rows (get_or w 2 0) 0) (be (part w 26 8))) (plain_of w rows) 0
