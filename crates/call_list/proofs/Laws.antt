-- The laws of lists of calls that the loops cite: what one number more, one byte more does.
-- Assumes nothing.
use Prim.Native.Nat.{ℕ, zero, suc, ◌+◌, ◌-◌, ◌*◌, ◌≤◌, ◌<◌}
use mathlib.Core.List.{List, [], ◌∷◌, ◌++◌}
use mathlib.Core.Path.{◌≡◌, refl, sym, ap, ◌∙◌}
use native.Mathlib.Numerals.{add-one}
use native.Mathlib.Omega.{arith}
use borrow.Author.Tests.{lt-leb, le-leb, lt-ltb, le-ltb}
use lib.ListN.{length, get_or, take, drop, set, length-append}
use lib.Seq.{take-suc, take-suc-set, drop-cons, set_at, append_snoc}
use Rattle.format.specs.Layout.{field, num}
use Rattle.text.specs.Decimal.{decimal_of, Wrote}
use Rattle.text.proofs.Laws.{wrote-long, wrote-append}
use Rattle.call_list.specs.Calls.{value_in, asks_of, fill_of, byte_at, made_of, weight_of, spaced_of}

-- ---- the list

pub asks-more : (t v : List ℕ) (k : ℕ) → k < length v → take k v ≡ asks_of t k → take (k + 1) (set v k (value_in (field (num 8) t (8 * k)))) ≡ asks_of t (k + 1)
unfolding asks_of
asks-more t v k h p = rw (add-one k) (take-suc-set v k (value_in (field (num 8) t (8 * k))) h ∙ rw p)

module _ (f p : ℕ) (e : List ℕ) where
  made-count : (n : ℕ) → length (made_of f p e n) ≡ n
  unfolding made_of
  made-count zero = refl
  made-count (suc n) = rw length-append (omega (arith, made-count n))

  pub made_more : (r₀ r : List ℕ) (i : ℕ) → i < length r₀ → r ≡ made_of f p e i ++ drop i r₀ → set r i (byte_at f p e i) ≡ made_of f p e (i + 1) ++ drop (i + 1) r₀
  unfolding made_of
  made_more r₀ r i h q =
      let m = made_of f p e i in
      let x = byte_at f p e i in
      let ys = drop (suc i) r₀ in
      rw (q, drop-cons r₀ i 0 h, add-one i) (set_at m (get_or r₀ i 0) ys x i (made-count i) ∙ sym (append_snoc m x ys))

-- the byte at a place: before the explicit bytes, one of them, and behind them
module _ (f p : ℕ) (e : List ℕ) (i : ℕ) where
  pub byte_before : i < p → byte_at f p e i ≡ fill_of f i
  unfolding byte_at
  byte_before h = rw (lt-leb p i h)

  pub byte-explicit : p ≤ i → i - p < length e → byte_at f p e i ≡ get_or e (i - p) 0
  unfolding byte_at
  byte-explicit h k = rw (le-leb p i h, lt-ltb i (p + length e) (omega arith))

  pub byte-behind : p ≤ i → length e ≤ i - p → byte_at f p e i ≡ fill_of f i
  unfolding byte_at
  byte-behind h k = rw (le-leb p i h, le-ltb i (p + length e) (omega arith))

-- ---- the sum

-- what each byte counts once
unfoldable pub once_of : List ℕ → ℕ
once_of [] = 0
once_of (b ∷ t) = b + 1 + once_of t

once_last : (t : List ℕ) (b : ℕ) → once_of (t ++ (b ∷ [])) ≡ once_of t + (b + 1)
unfolding once_of
once_last [] b = omega arith
once_last (x ∷ t) b = omega (arith, once_last t b)

weight-last : (t : List ℕ) (b : ℕ) → weight_of (t ++ (b ∷ [])) ≡ weight_of t + once_of t + (b + 1)
unfolding weight_of once_of
weight-last [] b = omega arith
weight-last (x ∷ t) b =
    let l : length (t ++ (b ∷ [])) ≡ suc (length t) = length-append t (b ∷ []) ∙ add-one (length t) in
    rw l (omega (arith, weight-last t b))

module _ (b : List ℕ) (i : ℕ) (h : i < length b) where
  one_more : take (i + 1) b ≡ take i b ++ (get_or b i 0 ∷ [])
  one_more = rw (add-one i) (take-suc b i 0 h)

  pub once_more : once_of (take (i + 1) b) ≡ once_of (take i b) + (get_or b i 0 + 1)
  once_more = ap once_of one_more ∙ once_last (take i b) (get_or b i 0)

  pub weight-more : weight_of (take (i + 1) b) ≡ weight_of (take i b) + once_of (take i b) + (get_or b i 0 + 1)
  weight-more = ap weight_of one_more ∙ weight-last (take i b) (get_or b i 0)

-- ---- numbers in decimal

-- some of the numbers are put: with the others behind them, all are
pub record Spacing (v b₀ : List ℕ) (at₀ : ℕ) (b : List ℕ) (at k : ℕ) : Type 0 where
  pub some : k ≤ length v
  pub room : at + 21 * (length v - k) ≤ length b
  pub long : length b ≡ length b₀
  pub then : (a : List ℕ) (r : ℕ) → Wrote (spaced_of (drop k v)) b at a r → Wrote (spaced_of v) b₀ at₀ a r

module _ (v b₀ : List ℕ) (at₀ : ℕ) (b : List ℕ) (at k : ℕ) (p : Spacing v b₀ at₀ b at k) where
  pub spacing-more : k < length v → (b1 : List ℕ) (at1 : ℕ) → at1 ≤ at + 21 → Wrote (32 ∷ decimal_of (get_or v k 0)) b at b1 at1 → Spacing v b₀ at₀ b1 at1 (k + 1)
  unfolding spaced_of
  spacing-more h b1 at1 n w1 =
      record {
        some = omega arith;
        room = omega (arith, p.room, wrote-long w1);
        long = wrote-long w1 ∙ p.long;
        then = λ a r w. p.then a r (rw (drop-cons v k 0 h) (wrote-append w1 (rw (add-one k) at w)));
      }
