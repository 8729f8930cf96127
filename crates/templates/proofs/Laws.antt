-- The laws of templates that the loops cite: what one byte more, one value more or one template more does.
-- Assumes nothing.
use Prim.Native.Nat.{ℕ, zero, suc, ◌+◌, ◌-◌, ◌*◌, ◌/◌, ◌%◌, ◌^◌, ◌≤◌, ◌<◌}
use mathlib.Core.Bool.{true, false}
use mathlib.Core.List.{List, [], ◌∷◌, ◌++◌, append-nil, append_assoc}
use mathlib.Core.Path.{◌≡◌, refl, sym, ap, ◌∙◌}
use native.Mathlib.Numerals.{add-one}
use native.Mathlib.Omega.{arith}
use borrow.Author.Tests.{eq-eqb, ne_eqb}
use lib.Dec.{eqb}
use lib.ListN.{length, get_or, take, drop, set, drop_of_length-le}
use lib.Seq.{drop-cons, drop-drop, sets-eq, take-suc-set}
use Rattle.text.specs.Decimal.{Wrote}
use Rattle.text.proofs.Laws.{wrote-long, wrote_none, wrote-append, wrote_as, wrote-both}
use Rattle.templates.specs.Templates.{brace, closing, dot, comma, until, from, past, shown_of, letters_of, letter_of, is_name, name_of, value_of, behind_of, is_letter, filled_of, template_of, begin_of, starts_of}

-- ---- a text that is copied

pub wrote-copy : (t b : List ℕ) (at : ℕ) → at + length t ≤ length b → Wrote t b at (take at b ++ (t ++ drop (length t) (drop at b))) (at + length t)
wrote-copy t b at h = record { bytes = rw drop-drop (sym (sets-eq t b at h ∙ append_assoc (take at b) t (drop (at + length t) b))); next = refl; inside = h }

-- ---- the place where a mark stands first

first-until+from : (m : ℕ) (t : List ℕ) (i : ℕ) → i ≤ length t → ((k : ℕ) → k < i → get_or t k 0 ≡ m → ⊥) → (i < length t → get_or t i 0 ≡ m)
    → (take i t ≡ until m t) × (drop i t ≡ from m t)
unfolding until from
first-until+from m [] zero h b f = (refl, refl)
first-until+from m [] (suc i) h b f = absurd (omega arith)
first-until+from m (x ∷ t) zero h b f =
    let e : x ≡ m = f (omega arith) in
    (rw (eq-eqb x m e), rw (eq-eqb x m e))
first-until+from m (x ∷ t) (suc i) h b f =
    let n : x ≡ m → ⊥ = b 0 (omega arith) in
    let r = first-until+from m t i (omega arith) (λ k z. b (suc k) (omega arith)) (λ z. f (omega arith)) in
    (rw (ne_eqb x m n) (ap (λ l. x ∷ l) r.0), rw (ne_eqb x m n) r.1)

module _ (m : ℕ) (t : List ℕ) (i : ℕ) (h : i ≤ length t) (b : (k : ℕ) → k < i → get_or t k 0 ≡ m → ⊥) (f : i < length t → get_or t i 0 ≡ m) where
  pub first-until : take i t ≡ until m t
  first-until = (first-until+from m t i h b f).0

  pub first-from : drop i t ≡ from m t
  first-from = (first-until+from m t i h b f).1

-- ---- the byte at a place of the table

module _ (t : List ℕ) (i : ℕ) where
  cons-at : i < length t → drop i t ≡ get_or t i 0 ∷ drop (i + 1) t
  cons-at h = drop-cons t i 0 h ∙ ap (λ (n : ℕ). get_or t i 0 ∷ drop n t) (sym (add-one i))

  none-at : length t ≤ i → drop i t ≡ []
  none-at h = drop_of_length-le t {i = i} h

  module _ (v last : ℕ) where
    pub name-closes : i < length t → get_or t i 0 ≡ closing → name_of v last (drop i t) ≡ []
    unfolding name_of
    name-closes h e = ap (name_of v last) (cons-at h) ∙ rw (eq-eqb (get_or t i 0) closing e)

    pub name-stop : i < length t → (get_or t i 0 ≡ closing → ⊥) → is_name v last (get_or t i 0) ≡ true → name_of v last (drop i t) ≡ drop (i + 1) t
    unfolding name_of
    name-stop h z e = ap (name_of v last) (cons-at h) ∙ rw (ne_eqb (get_or t i 0) closing z, e)

    pub name-more : i < length t → (get_or t i 0 ≡ closing → ⊥) → is_name v last (get_or t i 0) ≡ false
        → name_of v last (drop i t) ≡ name_of v (last % 256 * 256 + get_or t i 0) (drop (i + 1) t)
    unfolding name_of
    name-more h z e = ap (name_of v last) (cons-at h) ∙ rw (ne_eqb (get_or t i 0) closing z, e)

    pub name-none : length t ≤ i → name_of v last (drop i t) ≡ []
    unfolding name_of
    name-none h = rw (none-at h)

-- ---- the bytes of a number, in the same way

pub record Spelling (v n : ℕ) (b₀ : List ℕ) (at : ℕ) (b : List ℕ) (k left : ℕ) : Type 0 where
  pub some : left ≤ n
  pub room : k + 4 * left ≤ at + 4 * n
  pub long : length b ≡ length b₀
  pub then : (a : List ℕ) (r : ℕ) → Wrote (letters_of left v) b k a r → Wrote (letters_of n v) b₀ at a r

bytes_next : (v left : ℕ) → 0 < left → letters_of left v ≡ shown_of (v / 2 ^ (8 * (left - 1)) % 256) ++ letters_of (left - 1) v
unfolding letters_of
bytes_next v zero h = absurd (omega arith)
bytes_next v (suc n) h =
    let e : suc n - 1 ≡ n = omega arith in
    rw e

pub spelling-more : (v n : ℕ) (b₀ : List ℕ) (at : ℕ) (b : List ℕ) (k left : ℕ) → Spelling v n b₀ at b k left → 0 < left → (a : List ℕ) (r : ℕ) → r ≤ k + 4
    → Wrote (shown_of (v / 2 ^ (8 * (left - 1)) % 256)) b k a r → Spelling v n b₀ at a r (left - 1)
spelling-more v n b₀ at b k left p h a r s w =
    record {
      some = omega (arith, p.some);
      room = omega (arith, p.room);
      long = wrote-long w ∙ p.long;
      then = λ c q z. p.then c q (wrote-both (bytes_next v left h) w z);
    }

pub spelling-end : (v n : ℕ) (b₀ : List ℕ) (at : ℕ) (b : List ℕ) (k : ℕ) → Spelling v n b₀ at b k 0 → k ≤ length b → Wrote (letters_of n v) b₀ at b k
unfolding letters_of
spelling-end v n b₀ at b k p h = p.then b k (wrote_none b k h)

-- ---- the value at a place

module _ (p : List ℕ) (v : ℕ) where
  pub letter-value : is_letter p ≡ true → value_of p v ≡ letter_of (get_or p 0 0) v
  unfolding value_of
  letter-value e = rw e

  pub letter-behind : is_letter p ≡ true → behind_of p v ≡ drop 2 p
  unfolding behind_of
  letter-behind e = rw e

  pub name-value : is_letter p ≡ false → value_of p v ≡ until comma (name_of v 0 p)
  unfolding value_of
  name-value e = rw e

  pub name-behind : is_letter p ≡ false → behind_of p v ≡ past closing (from comma (name_of v 0 p))
  unfolding behind_of
  name-behind e = rw e

-- ---- a template, value by value

module _ (t vs : List ℕ) (k : ℕ) where
  pub text-last : length vs ≤ k → filled_of t (drop k vs) ≡ until brace t
  unfolding filled_of
  text-last h = rw (none-at vs k h)

  module _ (h : k < length vs) where
    pub text-stops : eqb (get_or (past brace t) 0 dot) dot ≡ true → filled_of t (drop k vs) ≡ until brace t
    unfolding filled_of
    text-stops d = ap (filled_of t) (cons-at vs k h) ∙ rw (d, append-nil)

    pub text-goes : eqb (get_or (past brace t) 0 dot) dot ≡ false
        → filled_of t (drop k vs)
        ≡ until brace t ++ (value_of (past brace t) (get_or vs k 0) ++ filled_of (behind_of (past brace t) (get_or vs k 0)) (drop (k + 1) vs))
    unfolding filled_of
    text-goes d = ap (filled_of t) (cons-at vs k h) ∙ rw d

pub record Filling (t₀ vs : List ℕ) (b₀ : List ℕ) (at₀ : ℕ) (b t : List ℕ) (at k : ℕ) : Type 0 where
  pub some : k ≤ length vs
  pub room : at + length t + 32 * (length vs - k) ≤ length b
  pub long : length b ≡ length b₀
  pub then : (a : List ℕ) (r : ℕ) → Wrote (filled_of t (drop k vs)) b at a r → Wrote (filled_of t₀ vs) b₀ at₀ a r

module _ (t₀ vs : List ℕ) (b₀ : List ℕ) (at₀ : ℕ) (b t : List ℕ) (at k : ℕ) (p : Filling t₀ vs b₀ at₀ b t at k) where
  pub filling-last : length vs ≤ k → (a : List ℕ) (r : ℕ) → Wrote (until brace t) b at a r → Wrote (filled_of t₀ vs) b₀ at₀ a r
  filling-last h a r w = p.then a r (wrote_as (text-last t vs k h) w)

  module _ (h : k < length vs) (b1 : List ℕ) (at1 : ℕ) (w1 : Wrote (until brace t) b at b1 at1) where
    pub filling-stops : eqb (get_or (past brace t) 0 dot) dot ≡ true → Wrote (filled_of t₀ vs) b₀ at₀ b1 at1
    filling-stops d = p.then b1 at1 (wrote_as (text-stops t vs k h d) w1)

    pub filling-more : eqb (get_or (past brace t) 0 dot) dot ≡ false → (b2 t2 : List ℕ) (at2 : ℕ) → at2 + length t2 ≤ at + length t + 32
        → Wrote (value_of (past brace t) (get_or vs k 0)) b1 at1 b2 at2 → t2 ≡ behind_of (past brace t) (get_or vs k 0)
        → Filling t₀ vs b₀ at₀ b2 t2 at2 (k + 1)
    filling-more d b2 t2 at2 m w2 q =
        let l : length b2 ≡ length b = wrote-long w2 ∙ wrote-long w1 in
        record {
          some = omega arith;
          room = omega (arith, p.room);
          long = l ∙ p.long;
          then = λ a r w. p.then a r (wrote-both (text-goes t vs k h d) w1 (wrote-append w2 (rw q at w)));
        }

-- ---- the starts of a table's templates

module _ (table t : List ℕ) (k : ℕ) (q : t ≡ template_of table k) where
  pub template-more : past dot t ≡ template_of table (k + 1)
  unfolding template_of
  template-more = rw (add-one k) (ap (past dot) q)

  pub starts_more : (l : List ℕ) → k < length l → take k l ≡ starts_of table k → take (k + 1) (set l k (length table - length t)) ≡ starts_of table (k + 1)
  unfolding starts_of begin_of
  starts_more l h p = rw (add-one k) (take-suc-set l k (length table - length t) h ∙ rw (p, q))
