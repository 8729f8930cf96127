-- The laws of decimal text, and of texts put one behind the other.
-- Assumes nothing.
use Prim.Native.Nat.{ℕ, zero, suc, ◌+◌, ◌/◌, ◌%◌, ◌^◌, ◌≤◌, ◌<◌}
use mathlib.Core.Bool.{Bool, true, false}
use mathlib.Core.List.{List, [], ◌∷◌, ◌++◌, append_assoc}
use mathlib.Core.Path.{◌≡◌, refl, sym, ap, ◌∙◌}
use native.Mathlib.Nat.{add-zero, pow-suc}
use native.Mathlib.Omega.{arith}
use borrow.Author.Tests.{lt-ltb, le-ltb, ltb-true, ltb-false}
use lib.Dec.{ltb}
use lib.ListN.{length, set, take, drop, length-append}
use lib.Seq.{sets, length-sets, sets-eq, take-append_seam}
use Rattle.text.specs.Decimal.{one_of, two_of, four_of, eight_of, digits_by, decimal_of, behind, Wrote, Puts}

-- ---- decimal

-- more fuel than n changes nothing
digits-enough : (j k n : ℕ) → n < j → n < k → digits_by j n ≡ digits_by k n
unfolding digits_by
digits-enough zero k n h g = absurd (omega arith)
digits-enough (suc j) zero n h g = absurd (omega arith)
digits-enough (suc j) (suc k) n h g = go (λ a b. digits-enough j k (n / 10) a b) (ltb n 10) refl
  where
    go : (n / 10 < j → n / 10 < k → digits_by j (n / 10) ≡ digits_by k (n / 10)) → (b : Bool) → ltb n 10 ≡ b → digits_by (suc j) n ≡ digits_by (suc k) n
    go ih true e = rw e
    go ih false e =
        let l : 10 ≤ n = ltb-false n 10 e in
        rw (e, ih (omega arith) (omega arith))

pub decimal-one : (n : ℕ) → n < 10 → decimal_of n ≡ one_of n
unfolding decimal_of digits_by
decimal-one n h = rw (lt-ltb n 10 h)

pub decimal-next : (n : ℕ) → 10 ≤ n → decimal_of n ≡ decimal_of (n / 10) ++ one_of (n % 10)
unfolding decimal_of digits_by
decimal-next n h = rw (le-ltb n 10 h, digits-enough n (suc (n / 10)) (n / 10) (omega arith) (omega arith))

pub decimal-two : (n : ℕ) → 10 ≤ n → n < 100 → decimal_of n ≡ two_of n
decimal-two n h g = decimal-next n h ∙ ap (λ (l : List ℕ). l ++ one_of (n % 10)) (decimal-one (n / 10) (omega arith))

-- the last two, four and eight digits, each by the law before it
pub last-2 : (n : ℕ) → 100 ≤ n → decimal_of n ≡ decimal_of (n / 100) ++ two_of (n % 100)
last-2 n h =
    let a : n / 10 / 10 ≡ n / 100 = omega arith in
    let b : n / 10 % 10 ≡ n % 100 / 10 = omega arith in
    let c : n % 10 ≡ n % 100 % 10 = omega arith in
    decimal-next n (omega arith)
    ∙ ap (λ (l : List ℕ). l ++ one_of (n % 10)) (decimal-next (n / 10) (omega arith))
    ∙ rw (a, b, c, append_assoc)

pub last-4 : (n : ℕ) → 10000 ≤ n → decimal_of n ≡ decimal_of (n / 10000) ++ four_of (n % 10000)
unfolding four_of
last-4 n h =
    let a : n / 100 / 100 ≡ n / 10000 = omega arith in
    let b : n / 100 % 100 ≡ n % 10000 / 100 = omega arith in
    let c : n % 100 ≡ n % 10000 % 100 = omega arith in
    last-2 n (omega arith)
    ∙ ap (λ (l : List ℕ). l ++ two_of (n % 100)) (last-2 (n / 100) (omega arith))
    ∙ append_assoc (decimal_of (n / 100 / 100)) (two_of (n / 100 % 100)) (two_of (n % 100))
    ∙ rw (a, b, c)

pub last-8 : (n : ℕ) → 100000000 ≤ n → decimal_of n ≡ decimal_of (n / 100000000) ++ eight_of (n % 100000000)
unfolding eight_of
last-8 n h =
    let a : n / 10000 / 10000 ≡ n / 100000000 = omega arith in
    let b : n / 10000 % 10000 ≡ n % 100000000 / 10000 = omega arith in
    let c : n % 10000 ≡ n % 100000000 % 10000 = omega arith in
    last-4 n (omega arith)
    ∙ ap (λ (l : List ℕ). l ++ four_of (n % 10000)) (last-4 (n / 10000) (omega arith))
    ∙ append_assoc (decimal_of (n / 10000 / 10000)) (four_of (n / 10000 % 10000)) (four_of (n % 10000))
    ∙ rw (a, b, c)

pub decimal-four : (n : ℕ) → 1000 ≤ n → n < 10000 → decimal_of n ≡ four_of n
unfolding four_of
decimal-four n h g = last-2 n (omega arith) ∙ ap (λ (l : List ℕ). l ++ two_of (n % 100)) (decimal-two (n / 100) (omega arith) (omega arith))

-- how long it is
pub four-long : (n : ℕ) → length (four_of n) ≡ 4
unfolding four_of
four-long n = refl

pub more-2 : (n : ℕ) → 100 ≤ n → length (decimal_of n) ≡ length (decimal_of (n / 100)) + 2
more-2 n h = ap length (last-2 n h) ∙ length-append (decimal_of (n / 100)) (two_of (n % 100))

pub more-4 : (n : ℕ) → 10000 ≤ n → length (decimal_of n) ≡ length (decimal_of (n / 10000)) + 4
unfolding four_of
more-4 n h = ap length (last-4 n h) ∙ length-append (decimal_of (n / 10000)) (four_of (n % 10000))

pub more-8 : (n : ℕ) → 100000000 ≤ n → length (decimal_of n) ≡ length (decimal_of (n / 100000000)) + 8
unfolding eight_of four_of
more-8 n h = ap length (last-8 n h) ∙ length-append (decimal_of (n / 100000000)) (eight_of (n % 100000000))

pub decimal-short : (k n : ℕ) → n < 10 ^ (suc k) → length (decimal_of n) ≤ suc k
decimal-short zero n h = rw (decimal-one n h) (omega arith)
decimal-short (suc k) n h = go (λ a. decimal-short k (n / 10) a) (ltb n 10) refl
  where
    go : (n / 10 < 10 ^ (suc k) → length (decimal_of (n / 10)) ≤ suc k) → (b : Bool) → ltb n 10 ≡ b → length (decimal_of n) ≤ suc (suc k)
    go ih true e = rw (decimal-one n (ltb-true n 10 e)) (omega arith)
    go ih false e =
        rw (decimal-next n (ltb-false n 10 e), length-append) (omega (arith, ih (omega (arith, pow-suc 10 (suc k)))))

pub decimal-20 : (n : ℕ) → n < 2 ^ 64 → length (decimal_of n) ≤ 20
decimal-20 n h = decimal-short 19 n (omega arith)

pub behind-long : (n mark : ℕ) → n < 2 ^ 64 → length (behind n mark) ≤ 21
behind-long n mark h = rw length-append (omega (arith, decimal-20 n h))

-- ---- texts

pub sets-append : (t u b : List ℕ) (i : ℕ) → sets (sets b i t) (i + length t) u ≡ sets b i (t ++ u)
sets-append [] u b i = rw (add-zero i)
sets-append (x ∷ t) u b i =
    let e : i + suc (length t) ≡ suc i + length t = omega arith in
    rw e (sets-append t u (set b i x) (suc i))

-- the buffer stays as long
pub wrote-long : {t b a : List ℕ} {at r : ℕ} → Wrote t b at a r → length a ≡ length b
wrote-long {t} {b} {a} {at} p = ap length p.bytes ∙ length-sets b at t

pub wrote_none : (b : List ℕ) (at : ℕ) → at ≤ length b → Wrote [] b at b at
wrote_none b at h = record { bytes = refl; next = omega arith; inside = h }

pub wrote-byte : (x : ℕ) (b : List ℕ) (at : ℕ) → at < length b → Wrote (x ∷ []) b at (set b at x) (at + 1)
wrote-byte x b at h = record { bytes = refl; next = refl; inside = omega arith }

pub wrote-append : {t u b m a : List ℕ} {at r s : ℕ} → Wrote t b at m r → Wrote u m r a s → Wrote (t ++ u) b at a s
wrote-append {t} {u} {b} {m} {a} {at} {r} {s} p q =
    record {
      bytes = q.bytes ∙ rw (p.bytes, p.next) (sets-append t u b at);
      next = omega (arith, p.next, q.next, length-append t u);
      inside = omega (arith, q.inside, wrote-long p);
    }

-- and taken apart again
pub wrote-split : {t u b a : List ℕ} {at r : ℕ} → Wrote (t ++ u) b at a r → Wrote t b at (sets b at t) (at + length t) × Wrote u (sets b at t) (at + length t) a r
wrote-split {t} {u} {b} {a} {at} {r} p =
    let l = length-append t u in
    let k = length-sets b at t in (
      record { bytes = refl; next = refl; inside = omega (arith, p.next, p.inside, l) },
      record { bytes = p.bytes ∙ sym (sets-append t u b at); next = omega (arith, p.next, l); inside = omega (arith, p.inside, k) },
    )

-- the same text by another name
pub wrote_as : {t u b a : List ℕ} {at r : ℕ} → u ≡ t → Wrote t b at a r → Wrote u b at a r
wrote_as {t} {u} {b} {a} {at} {r} e p = rw e p

-- two texts, one behind the other, that together are a third
pub wrote-both : {t u v b m a : List ℕ} {at r s : ℕ} → v ≡ t ++ u → Wrote t b at m r → Wrote u m r a s → Wrote v b at a s
wrote-both e p q = wrote_as e (wrote-append p q)

-- the buffer before, the text and what stands behind it
wrote-parts : {t b a : List ℕ} {at r : ℕ} → Wrote t b at a r → a ≡ take at b ++ t ++ drop (at + length t) b
wrote-parts {t} {b} {a} {at} p = p.bytes ∙ sets-eq t b at (omega (arith, p.next, p.inside))

-- a text that stands at the buffer's start is what is written out
pub wrote-front : {t b a : List ℕ} {r : ℕ} → Wrote t b 0 a r → take r a ≡ t
wrote-front {t} {b} {a} {r} p =
    let e : r ≡ length t = omega (arith, p.next) in
    let z : a ≡ t ++ drop (0 + length t) b = wrote-parts p in
    rw (e, z) (take-append_seam t (drop (0 + length t) b))

-- a put that finds room, and one that does not
pub puts-fits : {room : ℕ} {t b a : List ℕ} {at r : ℕ} → at + room ≤ length b → Wrote t b at a r → Puts room t b at a r
puts-fits h p = record { fits = λ _. p; full = λ l. absurd (omega (arith, h, l)) }

pub puts-full : {room : ℕ} {t b : List ℕ} {at : ℕ} → length b < at + room → Puts room t b at b at
puts-full h = record { fits = λ l. absurd (omega (arith, h, l)); full = λ _. (refl, refl) }
