-- The rule of the code-set masks: bit k of a byte's mask is 1 exactly where the byte is legal in the k-th set.
-- Assumes nothing.
use Rattle.std.specs.Prelude.{ℕ, zero, suc, ◌+◌, ◌*◌, ◌^◌, ◌≡◌, List, [], ◌∷◌, Bool, cond}
use Rattle.format.specs.Codes.{sets}
use Rattle.format.specs.Layout.{member}

abbrev pub nth : List (List ℕ) → ℕ → List ℕ
nth [] k = []
nth (l ∷ ls) zero = l
nth (l ∷ ls) (suc k) = nth ls k

-- the sets' bits for a byte, lowest first
abbrev pub bits : List (List ℕ) → ℕ → ℕ
bits [] b = 0
bits (l ∷ ls) b = bits ls b * 2 + cond (member b l) 1 0

unfoldable pub mask_of : ℕ → ℕ
mask_of b = bits sets b

-- whether a byte is legal in the set whose bit this is
abbrev pub Legal : ℕ → ℕ → Bool → Type 0
Legal b bit r = (k : ℕ) → bit ≡ 2 ^ k → r ≡ member b (nth sets k)
