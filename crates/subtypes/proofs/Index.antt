-- Where a number stands in a list.
-- Assumes nothing.
use Prim.Native.Nat.{ℕ, zero, suc, ◌≤◌, ◌<◌}
use mathlib.Core.Path.{◌≡◌, refl, sym, ap, ◌∙◌}
use mathlib.Core.Bool.{Bool, true, false, cond, ◌||◌}
use mathlib.Core.List.{List, [], ◌∷◌}
use mathlib.Core.Logic.{◌⊎◌, inl, inr}
use native.Mathlib.Nat.{le_of_suc-le-suc}
use native.Mathlib.Omega.{arith}
use lib.Dec.{eqb, ltb, leb-suc-suc}
use lib.ListN.{length, get_or}
use borrow.Author.Tests.{eqb-true, eqb-false, lt-ltb}
use Rattle.format.specs.Layout.{member}
use Rattle.subtypes.specs.Rows.{index_in}

-- a number is found where it stands, or it stands nowhere
abbrev pub Stands : ℕ → List ℕ → Type 0
Stands v ks = ((index_in v ks < length ks) × (get_or ks (index_in v ks) 0 ≡ v)) ⊎ (index_in v ks ≡ length ks)

pub stands : (v : ℕ) (ks : List ℕ) → Stands v ks
stands v [] = inr refl
stands v (k ∷ ks) = go (eqb v k) refl (stands v ks)
  where
    go : (t : Bool) → eqb v k ≡ t → Stands v ks
        → ((cond t 0 (suc (index_in v ks)) < suc (length ks)) × (get_or (k ∷ ks) (cond t 0 (suc (index_in v ks))) 0 ≡ v)) ⊎ (cond t 0 (suc (index_in v ks)) ≡ suc (length ks))
    go true e r = inl (omega arith, sym (eqb-true v k e))
    go false e (inl h) = inl (omega (arith, h.0), h.1)
    go false e (inr h) = inr (ap suc h)

-- nothing before it is that number
pub stands-first : (v : ℕ) (ks : List ℕ) (i : ℕ) → i < length ks → get_or ks i 0 ≡ v → index_in v ks ≤ i
stands-first v [] i h e = omega arith
stands-first v (k ∷ ks) i h e = go (eqb v k) refl i h e (stands-first v ks)
  where
    go : (t : Bool) → eqb v k ≡ t → (i : ℕ) → i < suc (length ks) → get_or (k ∷ ks) i 0 ≡ v
        → ((i : ℕ) → i < length ks → get_or ks i 0 ≡ v → index_in v ks ≤ i) → cond t 0 (suc (index_in v ks)) ≤ i
    go true q i h e rest = omega arith
    go false q zero h e rest = absurd (eqb-false v k q (sym e))
    go false q (suc i) h e rest = let r = rest i (le_of_suc-le-suc h) e in omega (arith, r)

-- it is a member where it stands anywhere
pub stands-member : (v : ℕ) (ks : List ℕ) → member v ks ≡ ltb (index_in v ks) (length ks)
stands-member v [] = refl
stands-member v (k ∷ ks) = go (eqb v k) (stands-member v ks)
  where
    go : (t : Bool) → member v ks ≡ ltb (index_in v ks) (length ks) → (t || member v ks) ≡ ltb (cond t 0 (suc (index_in v ks))) (suc (length ks))
    go true e = sym (lt-ltb 0 (suc (length ks)) (omega arith))
    go false e = e ∙ sym (leb-suc-suc (suc (index_in v ks)) (length ks))
