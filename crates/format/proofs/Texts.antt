-- Where a text's first bad sequence begins, the place of refusal 3: it is the end of the longest front of the text that is well formed by itself, below the
-- text's end exactly where the text is not well formed, so that the place lies within its field; and the bytes behind a bad sequence change nothing of it.
-- Assumes nothing.
use Prim.Native.Nat.{ℕ, suc, ◌+◌, ◌<◌, ◌≤◌}
use mathlib.Core.Path.{◌≡◌, refl, sym, ap, ◌∙◌}
use mathlib.Core.Bool.{Bool, true, false, cond, false≢true}
use mathlib.Core.List.{List, [], ◌∷◌, ◌++◌}
use mathlib.Core.Logic.{⊎_elim}
use native.Mathlib.Numerals.{add-one}
use native.Mathlib.Omega.{arith}
use lib.ListN.{length, get_or, take, drop, length-drop}
use lib.Seq.{length-take-le, take-length, take-suc, drop-cons}
use Rattle.format.specs.Utf8.{Utf, fresh, bad, utf_step, utf_run, well_formed, begins_at, bad_from, first_bad}
use Rattle.format.specs.Layout.{text, part, placed, refused, field}
use Rattle.format.proofs.Tests.{le-or-lt}
use Rattle.format.proofs.Text.{utf-append}
use Rattle.format.proofs.Fields.{field-short, field-judged, text-cases}

-- q is the last place, of those up to i, before which a text is well formed by itself
record Last (t : List ℕ) (q i : ℕ) : Type 0 where
  pub inside : q ≤ i
  pub formed : well_formed (take q t) ≡ true
  pub longest : (n : ℕ) → q < n → n ≤ i → well_formed (take n t) ≡ false

onward : (t : List ℕ) (q i : ℕ) → Last t q i → Last t (cond (well_formed (take (i + 1) t)) (i + 1) q) (i + 1)
onward t q i h = go (well_formed (take (i + 1) t)) refl
  where
    go : (f : Bool) → well_formed (take (i + 1) t) ≡ f → Last t (cond f (i + 1) q) (i + 1)
    go true e = record { inside = omega arith; formed = e; longest = λ n l k. absurd (omega arith) }
    go false e = record {
      inside = omega (arith, h.inside);
      formed = h.formed;
      longest = λ n l k. ⊎_elim (λ m. h.longest n l m) (λ m. let z : n ≡ i + 1 = omega arith in rw z e) (le-or-lt n i);
    }

-- the search from place i on, the bytes before it passed
searched : (t : List ℕ) (from i : ℕ) (bs : List ℕ) → drop i t ≡ bs → i ≤ length t → Last t (begins_at (utf_run fresh (take i t)) from i) i
    → Last t (bad_from (utf_run fresh (take i t)) from i bs) (length t)
unfolding bad_from utf_run well_formed
searched t from i [] d l h =
    let e : length t ≡ i = omega (arith, simp length-drop at (ap length d)) in
    rw e h
searched t from i (b ∷ bs) d l h =
    let k : i < length t = omega (arith, simp length-drop at (ap length d)) in
    let c : drop i t ≡ get_or t i 0 ∷ drop (suc i) t = drop-cons t i 0 k in
    let x : get_or t i 0 ≡ b = cc in
    let u : utf_run fresh (take (i + 1) t) ≡ utf_step (utf_run fresh (take i t)) b = rw (add-one, take-suc t i 0, utf-append, x) in
    rw (← u) (searched t (begins_at (utf_run fresh (take i t)) from i) (i + 1) bs (rw add-one (cc)) (omega arith) (onward t _ i h))

first-last : (t : List ℕ) → Last t (first_bad t) (length t)
unfolding first_bad utf_run well_formed
first-last t = searched t 0 0 t refl (omega arith) (record { inside = omega arith; formed = refl; longest = λ n l k. absurd (omega arith) })

-- the bytes before it are well formed by themselves, and no longer front is
pub front-formed : (t : List ℕ) → well_formed (take (first_bad t) t) ≡ true
front-formed t = (first-last t).formed

pub no-longer-front : (t : List ℕ) (n : ℕ) → first_bad t < n → n ≤ length t → well_formed (take n t) ≡ false
no-longer-front t n l h = (first-last t).longest n l h

-- no other place has both
pub one_place : (t : List ℕ) (q : ℕ) → q ≤ length t → well_formed (take q t) ≡ true → ((n : ℕ) → q < n → n ≤ length t → well_formed (take n t) ≡ false)
    → q ≡ first_bad t
one_place t q l f g =
    ⊎_elim
    (λ a.
    ⊎_elim
    (λ b. omega arith)
    (λ b. absurd (false≢true (sym (g (first_bad t) b (first-last t).inside) ∙ front-formed t)))
    (le-or-lt (first_bad t) q))
    (λ b. absurd (false≢true (sym (no-longer-front t q b l) ∙ f)))
    (le-or-lt q (first_bad t))

-- it is below the text's end exactly where the text is not well formed
pub below_end : (t : List ℕ) → first_bad t < length t → well_formed t ≡ false
below_end t h = rw take-length at (no-longer-front t (length t) h (omega arith))

pub not-formed : (t : List ℕ) → well_formed t ≡ false → first_bad t < length t
not-formed t e =
    ⊎_elim
    (λ l.
    let z : first_bad t ≡ length t = omega (arith, (first-last t).inside) in
    absurd (false≢true (sym e ∙ ap well_formed (sym (take-length t)) ∙ ap (λ n. well_formed (take n t)) (sym z) ∙ front-formed t)))
    (λ l. l)
    (le-or-lt (length t) (first_bad t))

-- a text that is refused is refused with 3, that far into its field
pub text-place : (w : ℕ) (s : List ℕ) (at n p : ℕ) → field (text w) s at ≡ refused n p
    → (n ≡ 3) × (p ≡ at + first_bad (part s at w)) × (p < at + w)
text-place w s at n p e =
    let t : List ℕ = part s at w in
    ⊎_elim
    (λ (h : at + w ≤ length s).
    let k : w ≤ length (drop at s) = simp length-drop (omega arith) in
    let m : length t ≡ w = length-take-le w (drop at s) k in
    text-cases (λ x. placed at x ≡ refused n p → (n ≡ 3) × (p ≡ at + first_bad t) × (p < at + w)) w t
    (λ f q. let z : ◌≡◌ {A = ℕ} 0 1 = cc in absurd (omega arith))
    (λ f q. let r : p ≡ at + first_bad t = cc in (cc, r, omega (arith, not-formed t f)))
    (sym (field-judged (text w) s at h) ∙ e))
    (λ (h : length s < at + w). let z : ◌≡◌ {A = ℕ} 0 1 = cc (field-short (text w) s at h) in absurd (omega arith))
    (le-or-lt (at + w) (length s))

-- a bad sequence is never left, so what stands behind it is not looked at
never-left : (from i : ℕ) (ys : List ℕ) → bad_from bad from i ys ≡ from
unfolding bad_from utf_step
never-left from i [] = refl
never-left from i (y ∷ ys) = never-left from (i + 1) ys

behind : (u : Utf) (from i : ℕ) (xs ys : List ℕ) → utf_run u xs ≡ bad → bad_from u from i (xs ++ ys) ≡ bad_from u from i xs
unfolding bad_from utf_run
behind u from i [] ys e = rw e (never-left from i ys)
behind u from i (x ∷ xs) ys e = behind (utf_step u x) (begins_at u from i) (i + 1) xs ys e

pub behind-bad : (xs ys : List ℕ) → utf_run fresh xs ≡ bad → first_bad (xs ++ ys) ≡ first_bad xs
unfolding first_bad
behind-bad xs ys e = behind fresh 0 0 xs ys e
