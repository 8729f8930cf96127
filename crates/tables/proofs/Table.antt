-- A table's rule: the table is the list of what the rule says of 0, 1, 2 and so on. That it is, antt computes over the whole table, where a proof
-- cites the law below at the table's length; the law gives each entry.
-- Assumes nothing.
use mathlib.Core.Path.{◌≡◌, ◌∙◌, ap}
use mathlib.Core.List.{List, [], ◌∷◌}
use Prim.Native.Nat.{ℕ, zero, suc, ◌+◌, ◌<◌}
use native.Mathlib.Nat.{add-zero, zero-add, add-suc, suc-add, le_of_suc-le-suc, not-suc-le-zero}
use lib.ListN.{get_or}

-- what the rule f says of the n numbers from i on
abbrev said : (ℕ → ℕ) → ℕ → ℕ → List ℕ
said f i zero = []
said f i (suc n) = f i ∷ said f (suc i) n

from : (f : ℕ → ℕ) (i n k : ℕ) → k < n → get_or (said f i n) k 0 ≡ f (i + k)
from f i zero k h = absurd (not-suc-le-zero h)
from f i (suc n) zero h = rw add-zero
from f i (suc n) (suc k) h = rw (add-suc, ← suc-add) (from f (suc i) n k (le_of_suc-le-suc h))

pub tabled : (f : ℕ → ℕ) (n k : ℕ) → k < n → get_or (said f 0 n) k 0 ≡ f k
tabled f n k h = from f 0 n k h ∙ ap f (zero-add k)
