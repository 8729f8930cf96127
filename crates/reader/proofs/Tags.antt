-- A tag of no arm: what the last arm of the match on the tag knows. Its body is that of a tag which the edition adds, and where there is none, refusal 1 at
-- place 2.
-- Assumes nothing.
use mathlib.Core.Path.{◌≡◌, refl, ap, sym}
use mathlib.Core.Bool.{Bool, true, false, cond, ◌||◌, true≢false}
use mathlib.Core.List.{List, [], ◌∷◌, map}
use Prim.Native.Nat.{ℕ}
use lib.Dec.{eqb}
use mir.Val.{has_key}
use Rattle.format.specs.Ascii.{'A', 'B', 'C', 'D', 'E', 'F', 'H', 'I', 'J', 'K', 'L', 'N', 'O', 'P', 'Q', 'R', 'S', 'U', 'V', 'W', 'X', 'Y', 'h'}
use Rattle.format.specs.Layout.{refuses}
use Rattle.format.specs.Rows.{Row, base, added, later, found, none, find, under, body_in, body_later}
use Rattle.format.specs.declared.Edition.TheVariants.{Later}
use Rattle.format.specs.declared.Reading.{Reading}
use Rattle.format.proofs.Arms.{NoneOf, none_of}
use Rattle.format.proofs.Editions.{not-in-front}

-- the tags of the arms, in the order of the rows: A and F share an arm
abbrev arms : List (List ℕ)
arms =
    ('A' ∷ 'F' ∷ []) ∷ ('B' ∷ []) ∷ ('D' ∷ []) ∷ ('C' ∷ []) ∷ ('E' ∷ []) ∷ ('H' ∷ []) ∷ ('I' ∷ []) ∷ ('J' ∷ []) ∷ ('K' ∷ []) ∷ ('L' ∷ [])
    ∷ ('N' ∷ []) ∷ ('P' ∷ []) ∷ ('Q' ∷ []) ∷ ('R' ∷ []) ∷ ('S' ∷ []) ∷ ('U' ∷ []) ∷ ('V' ∷ []) ∷ ('W' ∷ []) ∷ ('X' ∷ []) ∷ ('Y' ∷ [])
    ∷ []

no_row : (rs : List Row) (t : ℕ) → has_key (map (λ r. r.tag) rs) t ≡ false → find rs t ≡ none
no_row [] t e = refl
no_row (r ∷ rs) t e = go (eqb r.tag t) e (no_row rs t)
  where
    go : (b : Bool) → (b || has_key (map (λ r. r.tag) rs) t) ≡ false → (has_key (map (λ r. r.tag) rs) t ≡ false → find rs t ≡ none)
        → cond b (found r) (find rs t) ≡ none
    go true q rest = absurd (true≢false q)
    go false q rest = rest q

-- a tag that the old edition does not have
pub not-base : (rd : Reading) (t : ℕ) (s : List ℕ) → NoneOf arms t → body_later rd.edition t s ≡ body_in rd t s
unfolding body_in body_later
not-base rd t s h =
    ap (λ f. under f s 13 (t ∷ [])) (sym (not-in-front base (later rd.edition) t (no_row base t (none_of arms t h))))

-- one that no edition has
abbrev late : List (List ℕ)
late = ('h' ∷ []) ∷ ('O' ∷ []) ∷ []

pub unknown : (t : ℕ) (s : List ℕ) → NoneOf late t → refuses 1 2 ≡ body_later Later t s
unfolding body_later
unknown t s h = rw (no_row added t (none_of late t h))
