-- A number as decimal text; what it is to spell a number; and what putting a text into a lent buffer does.
-- Assumes nothing.
use Rattle.std.specs.Prelude.{ℕ, zero, suc, ◌+◌, ◌-◌, ◌*◌, ◌/◌, ◌%◌, ◌^◌, ◌≤◌, ◌<◌, cond, List, [], ◌∷◌, ◌++◌, ◌≡◌, ltb, length, get_or}
use Rattle.std.proofs.lemmas.List.Edits.{sets}

-- one digit; and two, four and eight, zeros in front too
abbrev pub one_of : ℕ → List ℕ
one_of n = (48 + n) ∷ []

abbrev pub two_of : ℕ → List ℕ
two_of n = (48 + n / 10) ∷ (48 + n % 10) ∷ []

unfoldable pub four_of : ℕ → List ℕ
four_of n = two_of (n / 100) ++ two_of (n % 100)

unfoldable pub eight_of : ℕ → List ℕ
eight_of n = four_of (n / 10000) ++ four_of (n % 10000)

-- the digits of n, at most k of them
unfoldable pub digits_by : ℕ → ℕ → List ℕ
digits_by zero n = []
digits_by (suc k) n =
    let front = digits_by k (n / 10) in
    cond (ltb n 10) (one_of n) (front ++ one_of (n % 10))

-- below 10 its digit; else the digits of its tenth, and the last digit
unfoldable pub decimal_of : ℕ → List ℕ
decimal_of n = digits_by (suc n) n

-- a number and the byte behind it: a space, or the line's end
abbrev pub behind : ℕ → ℕ → List ℕ
behind n mark = decimal_of n ++ (mark ∷ [])

-- the number that a text of digits spells, in base ten
unfoldable pub value_from : ℕ → List ℕ → ℕ
value_from v [] = v
value_from v (d ∷ ds) = value_from (10 * v + (d - 48)) ds

-- a text of the bytes 48 to 57 alone
pub data Digits : List ℕ → Type 0 where
  none : Digits []
  more : {d : ℕ} {ds : List ℕ} → 48 ≤ d → d ≤ 57 → Digits ds → Digits (d ∷ ds)

-- t is n in decimal: its digits spell n, the first is 0 only if n is 0, and a 64-bit number has at most 20
pub record Spells (n : ℕ) (t : List ℕ) : Type 0 where
  pub value : value_from 0 t ≡ n
  pub digits : Digits t
  pub some : 1 ≤ length t
  pub first : get_or t 0 48 ≡ 48 → (n ≡ 0) × (length t ≡ 1)
  pub short : n < 2 ^ 64 → length t ≤ 20

-- b and after are the buffer before and after: the text t stands at `at`, all else stays, and r, within the buffer, is the place behind it
pub record Wrote (t b : List ℕ) (at : ℕ) (after : List ℕ) (r : ℕ) : Type 0 where
  pub bytes : after ≡ sets b at t
  pub next : r ≡ at + length t
  pub inside : r ≤ length b

-- where the buffer has `room` bytes from `at` on, the text is put there; where it has not, nothing is
pub record Puts (room : ℕ) (t b : List ℕ) (at : ℕ) (after : List ℕ) (r : ℕ) : Type 0 where
  pub fits : at + room ≤ length b → Wrote t b at after r
  pub full : length b < at + room → (after ≡ b) × (r ≡ at)
