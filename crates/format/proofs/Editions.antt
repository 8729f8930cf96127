-- Rows in front of rows: which of them a tag has. So a reading has a tag's row, or has none for it.
-- Assumes nothing.
use mathlib.Core.Path.{◌≡◌, refl, sym, ap, ◌∙◌}
use mathlib.Core.Bool.{Bool, true, false, cond}
use mathlib.Core.List.{List, [], ◌∷◌, ◌++◌}
use mathlib.Core.Logic.{◌⊎◌, inl, inr}
use Prim.Native.Nat.{ℕ}
use lib.Dec.{eqb}
use Rattle.format.specs.Rows.{Row, base, added, rows, later, rows_in, Found, found, none, find}
use Rattle.format.specs.declared.Edition.{Edition}
use Rattle.format.specs.declared.Edition.TheVariants.{Old, Later}
use Rattle.format.specs.declared.Reading.{Reading}

-- what is found, else the other
abbrev or_else : Found → Found → Found
or_else (found r) g = found r
or_else none g = g

find-append : (rs qs : List Row) (t : ℕ) → find (rs ++ qs) t ≡ or_else (find rs t) (find qs t)
find-append [] qs t = refl
find-append (r ∷ rs) qs t = go (eqb r.tag t) (find-append rs qs t)
  where
    go : (b : Bool) → find (rs ++ qs) t ≡ or_else (find rs t) (find qs t)
        → cond b (found r) (find (rs ++ qs) t) ≡ or_else (cond b (found r) (find rs t)) (find qs t)
    go true e = refl
    go false e = e

-- a tag's row among those in front; no such row there; none behind them
pub in-front : (rs qs : List Row) (t : ℕ) {r : Row} → find rs t ≡ found r → find (rs ++ qs) t ≡ found r
in-front rs qs t e = find-append rs qs t ∙ ap (λ (f : Found). or_else f (find qs t)) e

pub not-in-front : (rs qs : List Row) (t : ℕ) → find rs t ≡ none → find (rs ++ qs) t ≡ find qs t
not-in-front rs qs t e = find-append rs qs t ∙ ap (λ (f : Found). or_else f (find qs t)) e

pub not_behind : (rs qs : List Row) (t : ℕ) → find qs t ≡ none → find (rs ++ qs) t ≡ find rs t
not_behind rs qs t e = find-append rs qs t ∙ ap (or_else (find rs t)) e ∙ go (find rs t)
  where
    go : (f : Found) → or_else f none ≡ f
    go (found r) = refl
    go none = refl

in-edition : (e : Edition) (t : ℕ) → (find (base ++ later e) t ≡ find rows t) ⊎ (find (base ++ later e) t ≡ none)
in-edition Old t = go (find base t) refl
  where
    go : (f : Found) → find base t ≡ f → (find base t ≡ find rows t) ⊎ (find base t ≡ none)
    go (found r) e = inl (e ∙ sym (in-front base added t e))
    go none e = inr e
in-edition Later t = inl refl

pub row_in : (rd : Reading) (t : ℕ) → (find (rows_in rd) t ≡ find rows t) ⊎ (find (rows_in rd) t ≡ none)
row_in rd t = in-edition rd.edition t
