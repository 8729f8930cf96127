-- The texts of the tags, by the rows: what the arms of the match on the tag answer.
-- Assumes nothing.
use mathlib.Core.Path.{◌≡◌, refl, ap, ◌∙◌}
use mathlib.Core.Bool.{Bool, true, false, cond, ◌||◌, ◌&&◌}
use mathlib.Core.List.{List, [], ◌∷◌}
use mathlib.Core.Logic.{inl, inr}
use Prim.Native.Nat.{ℕ, ◌+◌, ◌<◌}
use native.Mathlib.Omega.{arith}
use lib.Dec.{T, leb, eqb}
use mir.Val.{has_key}
use types.Run.{OneOf}
use borrow.Author.Tests.{eqb-true, ne_eqb}
use Rattle.format.specs.Ascii.{'A', 'F', 'H', 'I', 'J', 'K', 'L', 'N', 'O', 'P', 'Q', 'R', 'Y', 'h'}
use Rattle.format.specs.Layout.{Kind, num, time, text, code, subtype, strays, first_stray, part}
use Rattle.format.specs.Rows.{Row, rows, found, find, fields_in}
use Rattle.format.specs.Strict.{stray_in, stray_of}
use Rattle.format.proofs.Tests.{both}
use Rattle.format.proofs.Arms.{NoneOf, joined, none_of}

-- what a text of w bytes at a place answers, and `rest` where it does not stray
abbrev in_text : List ℕ → ℕ → ℕ → ℕ → ℕ → ℕ
in_text s at w limit rest = cond (strays (part s at w) && leb (at + w) limit) (at + first_stray (part s at w)) rest

-- two texts: the first one's place, unless that is zero
pub two-texts : (s : List ℕ) (at w at₂ w₂ limit : ℕ) {p q r : ℕ} → 0 < at
    → p ≡ in_text s at w limit 0 → q ≡ in_text s at₂ w₂ limit 0 → r ≡ cond (eqb p 0) q p → r ≡ in_text s at w limit (in_text s at₂ w₂ limit 0)
two-texts s at w at₂ w₂ limit h e f g = rw (g, e, f) (go (strays (part s at w) && leb (at + w) limit))
  where
    go : (b : Bool) → cond (eqb (cond b (at + first_stray (part s at w)) 0) 0) (in_text s at₂ w₂ limit 0) (cond b (at + first_stray (part s at w)) 0)
        ≡ cond b (at + first_stray (part s at w)) (in_text s at₂ w₂ limit 0)
    go true = rw (ne_eqb (at + first_stray (part s at w)) 0 (λ e. omega arith))
    go false = refl

-- the arms of several tags, sorted
pub at-26 : (t : ℕ) (s : List ℕ) (limit : ℕ) → OneOf ('A' ∷ 'P' ∷ []) t → in_text s 26 8 limit 0 ≡ stray_of t s limit
unfolding stray_of
at-26 t s limit (inl e) = rw e
at-26 t s limit (inr e) = rw e

pub at-13 : (t : ℕ) (s : List ℕ) (limit : ℕ) → OneOf ('J' ∷ 'N' ∷ 'R' ∷ 'Y' ∷ []) t → in_text s 13 8 limit 0 ≡ stray_of t s limit
unfolding stray_of
at-13 t s limit (inl e) = rw e
at-13 t s limit (inr (inl e)) = rw e
at-13 t s limit (inr (inr (inl e))) = rw e
at-13 t s limit (inr (inr (inr e))) = rw e

pub at-13-too : (t : ℕ) (s : List ℕ) (limit : ℕ) → OneOf ('K' ∷ 'O' ∷ 'h' ∷ []) t → in_text s 13 8 limit 0 ≡ stray_of t s limit
unfolding stray_of
at-13-too t s limit (inl e) = rw e
at-13-too t s limit (inr (inl e)) = rw e
at-13-too t s limit (inr (inr e)) = rw e

-- a tag of no arm has no text: each row's tag has an arm, or its body has none
abbrev textless : List Kind → Bool
textless [] = true
textless (num w ∷ ks) = textless ks
textless (time ∷ ks) = textless ks
textless (text w ∷ ks) = false
textless (code set ∷ ks) = textless ks
textless (subtype ∷ ks) = textless ks

abbrev covered : List ℕ → List Row → Bool
covered ts [] = true
covered ts (r ∷ rs) = (has_key ts r.tag || textless r.body) && covered ts rs

no_text : (ks : List Kind) (s : List ℕ) (at limit : ℕ) → T (textless ks) → 0 ≡ stray_in ks s at limit
no_text [] s at limit h = refl
no_text (num w ∷ ks) s at limit h = no_text ks s (at + w) limit h
no_text (time ∷ ks) s at limit h = no_text ks s (at + 6) limit h
no_text (text w ∷ ks) s at limit h = absurd h
no_text (code set ∷ ks) s at limit h = no_text ks s (at + 1) limit h
no_text (subtype ∷ ks) s at limit h = no_text ks s (at + 2) limit h

uncovered : (ts : List ℕ) (rs : List Row) (t : ℕ) (s : List ℕ) (limit : ℕ) → T (covered ts rs) → has_key ts t ≡ false
    → 0 ≡ stray_in (fields_in (find rs t)) s 13 limit
uncovered ts [] t s limit h e = refl
uncovered ts (r ∷ rs) t s limit h e = go (eqb r.tag t) refl (uncovered ts rs t s limit b.1 e)
  where
    b : T (has_key ts r.tag || textless r.body) × T (covered ts rs)
    b = both (has_key ts r.tag || textless r.body) (covered ts rs) h

    go : (x : Bool) → eqb r.tag t ≡ x → 0 ≡ stray_in (fields_in (find rs t)) s 13 limit
        → 0 ≡ stray_in (fields_in (cond x (found r) (find rs t))) s 13 limit
    go true f rest =
        let k : has_key ts r.tag ≡ false = ap (has_key ts) (eqb-true r.tag t f) ∙ e in
        no_text r.body s 13 limit (rw k at b.0)
    go false f rest = rest

-- the arms, as they stand in the code
abbrev arms : List (List ℕ)
arms =
    ('A' ∷ 'P' ∷ []) ∷ ('F' ∷ []) ∷ ('H' ∷ []) ∷ ('I' ∷ []) ∷ ('L' ∷ []) ∷ ('Q' ∷ []) ∷ ('J' ∷ 'N' ∷ 'R' ∷ 'Y' ∷ []) ∷ ('K' ∷ 'O' ∷ 'h' ∷ [])
    ∷ []

pub of-no-arm : (t : ℕ) (s : List ℕ) (limit : ℕ) → NoneOf arms t → 0 ≡ stray_of t s limit
unfolding stray_of
of-no-arm t s limit h = uncovered (joined arms) rows t s limit tt (none_of arms t h)
