-- What the table is, and where a code stands in it.
-- Assumes nothing.
use Rattle.std.specs.Prelude.{ℕ, suc, ◌≡◌, cond, List, [], ◌∷◌, map, eqb, ltb, length, Option, Some, None}
use Rattle.format.specs.Codes.{subtypes}
use Rattle.format.specs.Layout.{be}

-- as numbers the rows are the 58 codes of the layouts, in their order
abbrev pub Listed : List (List ℕ) → Type 0
Listed rows = map be rows ≡ subtypes

-- where a number stands in a list, counted from 0; the list's length where it does not
abbrev pub index_in : ℕ → List ℕ → ℕ
index_in v [] = 0
index_in v (k ∷ ks) = cond (eqb v k) 0 (suc (index_in v ks))

-- the same, and none where it does not stand there
abbrev pub row_in : ℕ → List ℕ → Option ℕ
row_in v ks = cond (ltb (index_in v ks) (length ks)) (Some (index_in v ks)) None
