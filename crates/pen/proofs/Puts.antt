-- Fields put one after the other are the row, put; where the row fits, they are the row's bytes, put at once. What the code shows of a body is a
-- chain of its leaves' puts, field by field.
-- Assumes nothing.
use mathlib.Core.Path.{◌≡◌, refl, sym, ap, ◌∙◌, subst}
use mathlib.Core.List.{List, [], ◌∷◌}
use mathlib.Core.Bool.{Bool, true, false, cond}
use lib.Dec.{leb}
use native.Mathlib.Omega.{arith}
use Prim.Native.Nat.{ℕ, ◌+◌, ◌^◌, ◌<◌, ◌≤◌}
use lib.ListN.{length, length-append, get_or, drop}
use lib.Seq.{sets, length-sets}
use Rattle.format.specs.Layout.{Kind, width, widths}
use Rattle.pen.specs.Encode.{digits, write, put_in, put_row, layout, PutRow, PutBody}
use Rattle.pen.proofs.Digits.{length_digits, sets-append, put-fits}

-- each field put at its place, as a number that equals its value
pub data Puts : List ℕ → ℕ → List Kind → List ℕ → List ℕ → Type 0 where
  end : {s vs : List ℕ} {at : ℕ} → Puts s at [] vs s
  ◌by◌⨾◌ : {s t u : List ℕ} {k : Kind} {ks : List Kind} {at x : ℕ} {vs : List ℕ}
      → (t ≡ put_in s at (digits (width k) x)) × (x < 256 ^ width k) → x ≡ get_or vs 0 0 → Puts t (at + width k) ks (drop 1 vs) u → Puts s at (k ∷ ks) vs u

infixr 30 ◌⨾◌ ◌by◌⨾◌
-- the same, as the value itself
pub ◌⨾◌ : {s t u : List ℕ} {k : Kind} {ks : List Kind} {at : ℕ} {vs : List ℕ}
    → (t ≡ put_in s at (digits (width k) (get_or vs 0 0))) × (get_or vs 0 0 < 256 ^ width k) → Puts t (at + width k) ks (drop 1 vs) u → Puts s at (k ∷ ks) vs u
◌⨾◌ e r = e by refl ⨾ r

-- so the row is put
pub puts : (s : List ℕ) (at : ℕ) (ks : List Kind) (vs : List ℕ) {u : List ℕ} → Puts s at ks vs u → PutRow s at ks vs u
puts s at [] vs end = (refl, tt)
puts s at (k ∷ ks) vs (◌by◌⨾◌ {t = t} e q r) =
    let g = puts t (at + width k) ks (drop 1 vs) r in (
      g.0 ∙ ap (λ l. put_row l (at + width k) ks (drop 1 vs)) (e.0 ∙ ap (λ n. put_in s at (digits (width k) n)) q),
      (subst (λ n. n < 256 ^ width k) q e.1, g.1),
    )

-- and so is a body, whose values begin with its tag
pub body-puts : (s vs : List ℕ) {u : List ℕ} → Puts s 13 (layout (get_or vs 0 0)) (drop 1 vs) u → PutBody s vs u
body-puts s vs r = puts s 13 (layout (get_or vs 0 0)) (drop 1 vs) r

pub length-write : (ks : List Kind) (vs : List ℕ) → length (write ks vs) ≡ widths ks
length-write [] vs = refl
length-write (k ∷ ks) vs =
    length-append (digits (width k) (get_or vs 0 0)) (write ks (drop 1 vs))
    ∙ ap (λ n. n + length (write ks (drop 1 vs))) (length_digits (width k) (get_or vs 0 0))
    ∙ ap (λ n. width k + n) (length-write ks (drop 1 vs))

-- a row that fits is its bytes, put at once
pub row_fits : (s : List ℕ) (at : ℕ) (ks : List Kind) (vs : List ℕ) → at + widths ks ≤ length s → put_row s at ks vs ≡ sets s at (write ks vs)
row_fits s at [] vs h = refl
row_fits s at (k ∷ ks) vs h =
    let d : List ℕ = digits (width k) (get_or vs 0 0) in
    let g : put_in s at d ≡ sets s at d = put-fits s at (width k) (get_or vs 0 0) (omega arith) in
    let n : length (sets s at d) ≡ length s = length-sets s at d in
    let w : at + length d ≡ at + width k = ap (λ n. at + n) (length_digits (width k) (get_or vs 0 0)) in
    ap (λ l. put_row l (at + width k) ks (drop 1 vs)) g
    ∙ row_fits (sets s at d) (at + width k) ks (drop 1 vs) (omega arith)
    ∙ ap (λ n. sets (sets s at d) n (write ks (drop 1 vs))) (sym w)
    ∙ sym (sets-append s at d (write ks (drop 1 vs)))

-- what is put leaves the buffer's length
length-put : (s : List ℕ) (at : ℕ) (d : List ℕ) → length (put_in s at d) ≡ length s
unfolding put_in
length-put s at d = go (leb (at + length d) (length s))
  where
    go : (b : Bool) → length (cond b (sets s at d) s) ≡ length s
    go true = length-sets s at d
    go false = refl

length-row : (s : List ℕ) (at : ℕ) (ks : List Kind) (vs : List ℕ) → length (put_row s at ks vs) ≡ length s
length-row s at [] vs = refl
length-row s at (k ∷ ks) vs =
    length-row (put_in s at (digits (width k) (get_or vs 0 0))) (at + width k) ks (drop 1 vs) ∙ length-put s at (digits (width k) (get_or vs 0 0))

pub length-body : (s vs : List ℕ) {u : List ℕ} → PutBody s vs u → length u ≡ length s
length-body s vs e = ap length e.0 ∙ length-row s 13 (layout (get_or vs 0 0)) (drop 1 vs)
