-- The laws of the held bytes: which of them are zero, and what stands where once a piece is put in.
-- Assumes nothing.
use Prim.Native.Nat.{ℕ, zero, suc, ◌≤◌, ◌<◌, ◌+◌, ◌-◌, min}
use mathlib.Core.Path.{◌≡◌, refl, ap, sym, ◌∙◌}
use mathlib.Core.Bool.{◌&&◌}
use mathlib.Core.List.{List, [], ◌∷◌, ◌++◌, append-nil}
use mathlib.Core.Logic.{◌⊎◌, inl, inr, ⊎_elim}
use native.Mathlib.Nat.{min-eq_left, min-eq_right, le_of_lt}
use native.Mathlib.Omega.{arith}
use lib.ListN.{length, take, drop, get_or, length-drop, drop_of_length-le}
use lib.Seq.{take_all, take-length}
use lib.Dec.{eqb}
use borrow.Rule.Slice.PartMut.{put_mid}
use Rattle.std.specs.Prelude.{◌==◌}
use Rattle.std.specs.List.{list_all}
use Rattle.std.proofs.lemmas.List.{take_rest}
use Rattle.format.proofs.Tests.{le-or-lt}
use Rattle.walk.specs.Walk.{zeros, zero_from, put, frame_size}

pub zeros-all : (s : List ℕ) → list_all (λ b. b == 0) s ≡ zeros s
unfolding zeros
zeros-all [] = refl
zeros-all (x ∷ s) = ap (λ t. eqb x 0 && t) (zeros-all s)

-- the place, or the list's end if it is past that
least : (k n : ℕ) → ((k ≤ n) × (min k n ≡ k)) ⊎ ((n ≤ k) × (min k n ≡ n))
least k n = ⊎_elim (λ l. inl (l, min-eq_left l)) (λ l. inr (le_of_lt l, min-eq_right (le_of_lt l))) (le-or-lt k n)

drop-least : (k : ℕ) (s : List ℕ) → drop (min k (length s)) s ≡ drop k s
drop-least k s = ⊎_elim (λ h. ap (λ i. drop i s) h.1) (λ h. ap (λ i. drop i s) h.1 ∙ drop_of_length-le s (omega arith) ∙ sym (drop_of_length-le s h.0)) (least k (length s))

-- `&s[m..]` looked through
pub zeros-part : (s : List ℕ) (n k m : ℕ) → length s ≡ n → m ≡ min k n → list_all (λ b. b == 0) (take (n - m) (drop m s)) ≡ zero_from s k
zeros-part s n k m h e =
    rw (← h, take_rest s m, zeros-all (drop m s), e, ← h, drop-least k s)

-- ---- put

pub put-nil : (h : List ℕ) (k : ℕ) → put h k [] ≡ h
unfolding put
put-nil [] k = refl
put-nil (x ∷ h) zero = refl
put-nil (x ∷ h) (suc k) = ap (λ (l : List ℕ). x ∷ l) (put-nil h k)

pub put-past : (h : List ℕ) (k : ℕ) (p : List ℕ) → length h ≤ k → put h k p ≡ h
unfolding put
put-past [] k p le = refl
put-past (x ∷ h) zero p le = absurd (omega arith)
put-past (x ∷ h) (suc k) p le = ap (λ (l : List ℕ). x ∷ l) (put-past h k p (omega arith))

-- in two parts: what stands before the place, and what is put over the rest
put-rest : (h : List ℕ) (k : ℕ) (p : List ℕ) → put h k p ≡ take k h ++ put (drop k h) 0 p
unfolding put
put-rest [] zero p = refl
put-rest [] (suc k) p = refl
put-rest (x ∷ h) zero p = refl
put-rest (x ∷ h) (suc k) p = ap (λ (l : List ℕ). x ∷ l) (put-rest h k p)

-- from the first place on: the front of the piece, and what stands behind it
put-ends : (n : ℕ) (h p : List ℕ) → n ≤ length h → n ≤ length p → (n ≡ length h) ⊎ (n ≡ length p) → take n p ++ drop n h ≡ put h 0 p
unfolding put
put-ends zero [] p a b e = refl
put-ends zero (x ∷ h) [] a b e = refl
put-ends zero (x ∷ h) (y ∷ p) a b (inl e) = absurd (omega arith)
put-ends zero (x ∷ h) (y ∷ p) a b (inr e) = absurd (omega arith)
put-ends (suc n) [] p a b e = absurd (omega arith)
put-ends (suc n) (x ∷ h) [] a b e = absurd (omega arith)
put-ends (suc n) (x ∷ h) (y ∷ p) a b (inl e) = ap (λ (l : List ℕ). y ∷ l) (put-ends n h p (omega arith) (omega arith) (inl (omega arith)))
put-ends (suc n) (x ∷ h) (y ∷ p) a b (inr e) = ap (λ (l : List ℕ). y ∷ l) (put-ends n h p (omega arith) (omega arith) (inr (omega arith)))

pub put-least : (h p : List ℕ) (n : ℕ) → n ≡ min (length h) (length p) → take n p ++ drop n h ≡ put h 0 p
put-least h p n e =
    ⊎_elim (λ l. put-ends n h p (omega (arith, e, l.1)) (omega (arith, e, l.0, l.1)) (inl (e ∙ l.1)))
    (λ l. put-ends n h p (omega (arith, e, l.0, l.1)) (omega (arith, e, l.1)) (inr (e ∙ l.1))) (least (length h) (length p))

put-within : (h : List ℕ) (k : ℕ) (p : List ℕ) → put h (min k (length h)) p ≡ put h k p
put-within h k p = ⊎_elim (λ l. ap (λ i. put h i p) l.1) (λ l. ap (λ i. put h i p) l.1 ∙ put-past h (length h) p (omega arith) ∙ sym (put-past h k p l.0)) (least k (length h))

-- `&mut h[m..]` written to
pub put-part : (h f p : List ℕ) (n k m : ℕ) → length h ≡ n → m ≡ min k n → f ≡ put (take (n - m) (drop m h)) 0 p → put_mid m (n - m) h f ≡ put h k p
put-part h f p n k m l e g =
    let r : f ≡ put (drop m h) 0 p = g ∙ ap (λ (s : List ℕ). put s 0 p) (ap (λ i. take (i - m) (drop m h)) (sym l) ∙ take_rest h m) in
    let o : length (drop m h) ≤ n - m = simp length-drop (omega arith) in
    ap (λ (s : List ℕ). take m h ++ (f ++ s)) (drop_of_length-le (drop m h) o)
    ∙ ap (λ (s : List ℕ). take m h ++ s) (append-nil f ∙ r)
    ∙ sym (put-rest h m p)
    ∙ ap (λ i. put h i p) (e ∙ ap (min k) (sym l))
    ∙ put-within h k p

-- a piece put at the front stands there
pub put_front : (m : ℕ) (h p : List ℕ) → m ≤ length h → m ≤ length p → take m (put h 0 p) ≡ take m p
unfolding put
put_front zero h p a b = refl
put_front (suc m) [] p a b = absurd (omega arith)
put_front (suc m) (x ∷ h) [] a b = absurd (omega arith)
put_front (suc m) (x ∷ h) (y ∷ p) a b = ap (λ (l : List ℕ). y ∷ l) (put_front m h p (omega arith) (omega arith))

-- a byte before the place stays; then come the piece's bytes; a byte behind them stays
pub put_low : (h : List ℕ) (k : ℕ) (p : List ℕ) (i : ℕ) → i < k → get_or (put h k p) i 0 ≡ get_or h i 0
unfolding put
put_low [] k p i lt = refl
put_low (x ∷ h) zero p i lt = absurd (omega arith)
put_low (x ∷ h) (suc k) p zero lt = refl
put_low (x ∷ h) (suc k) p (suc i) lt = put_low h k p i (omega arith)

pub put-there : (h : List ℕ) (k : ℕ) (p : List ℕ) (i j : ℕ) → i ≡ k + j → i < length h → j < length p
    → get_or (put h k p) i 0 ≡ get_or p j 0
unfolding put
put-there [] k p i j e a b = absurd (omega arith)
put-there (x ∷ h) zero [] i j e a b = absurd (omega arith)
put-there (x ∷ h) zero (y ∷ p) zero zero e a b = refl
put-there (x ∷ h) zero (y ∷ p) zero (suc j) e a b = absurd (omega arith)
put-there (x ∷ h) zero (y ∷ p) (suc i) zero e a b = absurd (omega arith)
put-there (x ∷ h) zero (y ∷ p) (suc i) (suc j) e a b = put-there h zero p i j (omega arith) (omega arith) (omega arith)
put-there (x ∷ h) (suc k) p zero j e a b = absurd (omega arith)
put-there (x ∷ h) (suc k) p (suc i) j e a b = put-there h k p i j (omega arith) (omega arith) b

pub put-behind : (h : List ℕ) (k : ℕ) (p : List ℕ) (i : ℕ) → k + length p ≤ i → get_or (put h k p) i 0 ≡ get_or h i 0
unfolding put
put-behind [] k p i le = refl
put-behind (x ∷ h) zero [] i le = refl
put-behind (x ∷ h) zero (y ∷ p) zero le = absurd (omega arith)
put-behind (x ∷ h) zero (y ∷ p) (suc i) le = put-behind h zero p i (omega arith)
put-behind (x ∷ h) (suc k) p zero le = absurd (omega arith)
put-behind (x ∷ h) (suc k) p (suc i) le = put-behind h k p i (omega arith)

-- a frame begun is still short of its size after the put
pub put-started : (h : List ℕ) (k : ℕ) (p : List ℕ) → k < frame_size h → k < frame_size (put h k p)
put-started h zero p lt = omega arith
put-started h (suc zero) p lt = omega arith
put-started h (suc (suc k)) p lt =
    omega (arith, put_low h (suc (suc k)) p 0 (omega arith), put_low h (suc (suc k)) p 1 (omega arith))

-- ---- a front that is longer than the list is the list

pub take-least : (n : ℕ) (s : List ℕ) → take (min n (length s)) s ≡ take n s
take-least n s = ⊎_elim inside past (le-or-lt n (length s))
  where
    inside : n ≤ length s → take (min n (length s)) s ≡ take n s
    inside l = ap (λ k. take k s) (min-eq_left l)

    past : length s < n → take (min n (length s)) s ≡ take n s
    past l = ap (λ k. take k s) (min-eq_right (le_of_lt l)) ∙ take-length s ∙ sym (take_all n s (le_of_lt l))
