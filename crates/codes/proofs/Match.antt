-- A match on a number with an arm for each of some numbers: what its last arm knows.
-- Assumes nothing.
use mathlib.Core.Path.{◌≡◌, refl, ap, ◌∙◌}
use mathlib.Core.Bool.{Bool, true, false, cond, ◌||◌, true≢false}
use mathlib.Core.List.{List, [], ◌∷◌, map}
use Prim.Native.Nat.{ℕ}
use lib.Dec.{eqb}
use borrow.Author.Tests.{ne_eqb}
use Rattle.format.specs.Layout.{member}
use Rattle.codes.specs.Names.{name_of}

-- none of the numbers of the arms before, the last outermost
abbrev pub NoneOf : Type 0 → List ℕ → ℕ → Type 0
NoneOf A [] v = A
NoneOf A (k ∷ ks) v = NoneOf (A × (v ≡ k → ⊥)) ks v

none_from : (ks : List ℕ) (v : ℕ) (A : Type 0) → NoneOf A ks v → A × (member v ks ≡ false)
none_from [] v A a = (a, refl)
none_from (k ∷ ks) v A h =
    let r = none_from ks v (A × (v ≡ k → ⊥)) h in
    (r.0.0, ap (λ t. t || member v ks) (ne_eqb v k r.0.1) ∙ r.1)

none_of : (ks : List ℕ) (v : ℕ) → NoneOf (Unit {0}) ks v → member v ks ≡ false
none_of ks v h = (none_from ks v (Unit {0}) h).1

unnamed : {A : Type 0} (byte : A → ℕ) (xs : List A) (last : A) (b : ℕ) → member b (map byte xs) ≡ false → last ≡ name_of byte xs last b
unnamed byte [] last b e = refl
unnamed byte (x ∷ xs) last b e = go (eqb b (byte x)) e (unnamed byte xs last b)
  where
    go : (t : Bool) → (t || member b (map byte xs)) ≡ false → (member b (map byte xs) ≡ false → last ≡ name_of byte xs last b)
        → last ≡ cond t x (name_of byte xs last b)
    go true q rest = absurd (true≢false q)
    go false q rest = rest q

-- the last arm of a match that names codes
pub last_name : {A : Type 0} (byte : A → ℕ) (xs : List A) (last : A) (b : ℕ) → NoneOf (Unit {0}) (map byte xs) b → last ≡ name_of byte xs last b
last_name byte xs last b h = unnamed byte xs last b (none_of (map byte xs) b h)
