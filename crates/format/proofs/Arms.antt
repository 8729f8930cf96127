-- A number that no arm of a match has: what the last arm, `_`, knows.
-- Assumes nothing.
use mathlib.Core.Path.{◌≡◌, refl}
use mathlib.Core.Bool.{Bool, true, false, ◌||◌}
use mathlib.Core.List.{List, [], ◌∷◌, ◌++◌}
use Prim.Native.Nat.{ℕ}
use lib.Dec.{T, eqb}
use mir.Val.{has_key}
use types.Run.{OneOf, hit}

-- none of the keys of the arms before, the last outermost
abbrev NoneAfter : Type 0 → List (List ℕ) → ℕ → Type 0
NoneAfter A [] t = A
NoneAfter A (ks ∷ kss) t = NoneAfter (A × (OneOf ks t → ⊥)) kss t

abbrev pub NoneOf : List (List ℕ) → ℕ → Type 0
NoneOf = NoneAfter (Unit {0})

abbrev pub joined : List (List ℕ) → List ℕ
joined [] = []
joined (ks ∷ kss) = ks ++ joined kss

not_key : (ks : List ℕ) (t : ℕ) → (OneOf ks t → ⊥) → has_key ks t ≡ false
not_key ks t h = go (has_key ks t) (hit ks t)
  where
    go : (b : Bool) → (T b → OneOf ks t) → b ≡ false
    go true f = absurd (h (f tt))
    go false f = refl

keys-append : (xs ys : List ℕ) (t : ℕ) → has_key xs t ≡ false → has_key ys t ≡ false → has_key (xs ++ ys) t ≡ false
keys-append [] ys t p q = q
keys-append (x ∷ xs) ys t p q = go (eqb x t) p (λ r. keys-append xs ys t r q)
  where
    go : (b : Bool) → (b || has_key xs t) ≡ false → (has_key xs t ≡ false → has_key (xs ++ ys) t ≡ false) → (b || has_key (xs ++ ys) t) ≡ false
    go true r rest = r
    go false r rest = rest r

none_after : (kss : List (List ℕ)) (t : ℕ) (A : Type 0) → NoneAfter A kss t → A × (has_key (joined kss) t ≡ false)
none_after [] t A a = (a, refl)
none_after (ks ∷ kss) t A h =
    let r = none_after kss t (A × (OneOf ks t → ⊥)) h in
    (r.0.0, keys-append ks (joined kss) t (not_key ks t r.0.1) r.1)

pub none_of : (kss : List (List ℕ)) (t : ℕ) → NoneOf kss t → has_key (joined kss) t ≡ false
none_of kss t h = (none_after kss t (Unit {0}) h).1
