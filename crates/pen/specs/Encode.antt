-- The bytes of a row's values, over the kinds that the reader goes by; and a row put into a buffer, each field where it fits.
-- Assumes nothing.
use Rattle.std.specs.Prelude.{ℕ, zero, suc, ◌+◌, ◌/◌, ◌%◌, ◌^◌, ◌<◌, ◌≡◌, List, [], ◌∷◌, ◌++◌, Bool, true, cond, ◌&&◌, leb, length, get_or, drop}
use Rattle.std.proofs.lemmas.List.Edits.{sets}
use Rattle.format.specs.Layout.{Kind, num, time, text, code, subtype, width}
use Rattle.format.specs.Rows.{rows, find, fields_in}
use Rattle.format.specs.Utf8.{well_formed}

-- a number as w bytes, big-endian
unfoldable pub digits : ℕ → ℕ → List ℕ
digits zero v = []
digits (suc w) v = digits w (v / 256) ++ (v % 256 ∷ [])

-- the bytes of a row: of each field, the first of the values vs that are left
abbrev pub write : List Kind → List ℕ → List ℕ
write [] vs = []
write (k ∷ ks) vs = digits (width k) (get_or vs 0 0) ++ write ks (drop 1 vs)

-- whether all texts among the values of a row are UTF-8
abbrev pub text_fine : Kind → ℕ → Bool
text_fine (num w) v = true
text_fine time v = true
text_fine (text w) v = well_formed (digits w v)
text_fine (code set) v = true
text_fine subtype v = true

abbrev pub texts_fine : List Kind → List ℕ → Bool
texts_fine [] vs = true
texts_fine (k ∷ ks) vs = text_fine k (get_or vs 0 0) && texts_fine ks (drop 1 vs)

-- each value of a row fits its field: what the types of a record say of it
abbrev pub Sized : List Kind → List ℕ → Type 0
Sized [] vs = Unit {0}
Sized (k ∷ ks) vs = (get_or vs 0 0 < 256 ^ width k) × Sized ks (drop 1 vs)

-- bytes put into a buffer where they fit, and nothing put where they do not
unfoldable pub put_in : List ℕ → ℕ → List ℕ → List ℕ
put_in s at d = cond (leb (at + length d) (length s)) (sets s at d) s

-- the fields of a row put one after the other
abbrev pub put_row : List ℕ → ℕ → List Kind → List ℕ → List ℕ
put_row s at [] vs = s
put_row s at (k ∷ ks) vs = put_row (put_in s at (digits (width k) (get_or vs 0 0))) (at + width k) ks (drop 1 vs)

-- the fields of a tag's body
unfoldable pub layout : ℕ → List Kind
layout t = fields_in (find rows t)

-- a row's values put into the buffer s, which is u afterwards: what a function that puts them ensures
abbrev pub PutRow : List ℕ → ℕ → List Kind → List ℕ → List ℕ → Type 0
PutRow s at ks vs u = (u ≡ put_row s at ks vs) × Sized ks vs

-- the same of a body's values, which begin with its tag
abbrev pub PutBody : List ℕ → List ℕ → List ℕ → Type 0
PutBody s vs u = PutRow s 13 (layout (get_or vs 0 0)) (drop 1 vs) u
