-- `decimal_of n` spells n: in base ten, by digits alone, without a zero in front, and by 20 digits at most below 2^64.
-- Assumes nothing.
use Prim.Native.Nat.{ℕ, zero, suc, ◌+◌, ◌-◌, ◌*◌, ◌/◌, ◌%◌, ◌≤◌, ◌<◌}
use mathlib.Core.Bool.{Bool, true, false}
use mathlib.Core.List.{List, [], ◌∷◌, ◌++◌}
use mathlib.Core.Path.{◌≡◌, refl, ap, sym, ◌∙◌}
use native.Mathlib.Omega.{arith}
use borrow.Author.Tests.{ltb-true, ltb-false}
use lib.Dec.{ltb}
use lib.ListN.{length, get_or, length-append}
use Rattle.text.specs.Decimal.{one_of, decimal_of, value_from, Digits, none, more, Spells}
use Rattle.text.proofs.Laws.{decimal-one, decimal-next, decimal-20}

-- a last digit more
value-last : (v : ℕ) (t : List ℕ) (d : ℕ) → value_from v (t ++ one_of d) ≡ 10 * value_from v t + d
unfolding value_from
value-last v [] d = omega arith
value-last v (x ∷ t) d = value-last (10 * v + (x - 48)) t d

digits_last : (t : List ℕ) (d : ℕ) → d ≤ 9 → Digits t → Digits (t ++ one_of d)
digits_last [] d h none = more {d = 48 + d} (omega arith) (omega arith) none
digits_last (x ∷ t) d h (more a b p) = more a b (digits_last t d h p)

first-last : (t : List ℕ) (d : ℕ) → 1 ≤ length t → get_or (t ++ one_of d) 0 48 ≡ get_or t 0 48
first-last [] d h = absurd (omega arith)
first-last (x ∷ t) d h = refl

spells_one : (n : ℕ) → n < 10 → Spells n (one_of n)
unfolding value_from
spells_one n h =
    record {
      value = omega arith;
      digits = more {d = 48 + n} (omega arith) (omega arith) none;
      some = omega arith;
      first = λ e. (omega (arith, e), refl);
      short = λ l. omega arith;
    }

spells-next : (n : ℕ) → 10 ≤ n → Spells (n / 10) (decimal_of (n / 10)) → Spells n (decimal_of n)
spells-next n h s =
    let e = decimal-next n h in
    let t = decimal_of (n / 10) in
    record {
      value = ap (value_from 0) e ∙ value-last 0 t (n % 10) ∙ omega (arith, s.value);
      digits = rw e (digits_last t (n % 10) (omega arith) s.digits);
      some = rw (e, length-append) (omega arith);
      first = λ z.
          let y : get_or t 0 48 ≡ 48 = sym (first-last t (n % 10) s.some) ∙ sym (ap (λ (l : List ℕ). get_or l 0 48) e) ∙ z in
          absurd (omega (arith, (s.first y).0));
      short = decimal-20 n;
    }

-- by a bound on n
spells-below : (k n : ℕ) → n < k → Spells n (decimal_of n)
spells-below zero n h = absurd (omega arith)
spells-below (suc k) n h = go (λ l. spells-below k (n / 10) l) (ltb n 10) refl
  where
    go : (n / 10 < k → Spells (n / 10) (decimal_of (n / 10))) → (b : Bool) → ltb n 10 ≡ b → Spells n (decimal_of n)
    go ih true e =
        let l = ltb-true n 10 e in
        rw (decimal-one n l) (spells_one n l)
    go ih false e =
        let l = ltb-false n 10 e in
        spells-next n l (ih (omega arith))

pub decimal-spells : (n : ℕ) → Spells n (decimal_of n)
decimal-spells n = spells-below (suc n) n (omega arith)
