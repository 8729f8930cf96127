-- Whether a byte is a code: the codes that the arms of a match name are of the set. One law for all sets.
-- Assumes nothing.
use mathlib.Core.Path.{◌≡◌, refl, sym}
use mathlib.Core.Bool.{Bool, true, false, ◌&&◌}
use mathlib.Core.List.{List, [], ◌∷◌}
use mathlib.Core.Logic.{inl, inr}
use Prim.Native.Nat.{ℕ, zero, suc, ◌+◌, ◌≤◌, ◌<◌}
use native.Mathlib.Omega.{arith}
use lib.Dec.{T, eqb}
use types.Run.{OneOf}
use borrow.Author.Tests.{eqb-true, eqb-false}
use Rattle.format.specs.Layout.{member}
use Rattle.format.proofs.Tests.{both, is_true}

-- the codes that a match names one by one, and those that it names by a range, are in a set if the set has them all
abbrev within : List ℕ → List ℕ → Bool
within [] set = true
within (k ∷ ks) set = member k set && within ks set

abbrev from : ℕ → ℕ → List ℕ
from lo zero = []
from lo (suc n) = lo ∷ from (lo + 1) n

same : (set : List ℕ) {b k : ℕ} → b ≡ k → T (member k set) → true ≡ member b set
same set {b} {k} e h = rw e (sym (is_true (member k set) h))

pub one_of : (set ks : List ℕ) (b : ℕ) → T (within ks set) → OneOf ks b → true ≡ member b set
one_of set [] b t h = absurd h
one_of set (k ∷ []) b t h = same set h (both (member k set) true t).0
one_of set (k ∷ l ∷ ks) b t (inl e) = same set e (both (member k set) (within (l ∷ ks) set) t).0
one_of set (k ∷ l ∷ ks) b t (inr r) = one_of set (l ∷ ks) b (both (member k set) (within (l ∷ ks) set) t).1 r

pub in-range : (set : List ℕ) (lo n b : ℕ) → T (within (from lo n) set) → lo ≤ b → b < lo + n → true ≡ member b set
in-range set lo zero b t l h = absurd (omega arith)
in-range set lo (suc n) b t l h = go (eqb b lo) refl (in-range set (lo + 1) n b (both (member lo set) (within (from (lo + 1) n) set) t).1)
  where
    go : (q : Bool) → eqb b lo ≡ q → (lo + 1 ≤ b → b < lo + 1 + n → true ≡ member b set) → true ≡ member b set
    go true e rest = same set (eqb-true b lo e) (both (member lo set) (within (from (lo + 1) n) set) t).0
    go false e rest =
        let d : b ≡ lo → ⊥ = eqb-false b lo e in
        rest (omega arith) (omega arith)
