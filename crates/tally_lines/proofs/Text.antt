-- The lines of the tag values and the whole output, case by case.
-- Assumes nothing.
use Prim.Native.Nat.{ℕ, ◌+◌, ◌≤◌, ◌<◌}
use mathlib.Core.Path.{◌≡◌}
use mathlib.Core.List.{List, [], ◌∷◌, ◌++◌}
use native.Mathlib.Numerals.{add-one}
use borrow.Author.Tests.{lt-ltb, le-ltb, eq-eqb, ne_eqb}
use lib.ListN.{length, get_or}
use Rattle.text.specs.Decimal.{behind}
use Rattle.stream.specs.declared.Answer.{Answer}
use Rattle.tally_lines.specs.Lines.{line_of, lines_of, tally_of, printed_of}

pub line-some : (tag n : ℕ) → 0 < n → line_of tag n ≡ (tag ∷ 32 ∷ []) ++ behind n 10
unfolding line_of
line-some tag n h = simp (lt-ltb 0 n h)

pub line-none : (tag n : ℕ) → n ≤ 0 → line_of tag n ≡ []
unfolding line_of
line-none tag n h = simp (le-ltb 0 n h)

pub lines_more : (c : List ℕ) (k : ℕ) → lines_of c (k + 1) ≡ lines_of c k ++ line_of k (get_or c k 0)
unfolding lines_of
lines_more c k = rw (add-one k)

pub printed-all : (c : List ℕ) (messages : ℕ) (a : Answer) → length c ≡ 256 → printed_of c messages a ≡ tally_of c messages a
unfolding printed_of
printed-all c messages a h = simp (eq-eqb (length c) 256 h)

pub printed-none : (c : List ℕ) (messages : ℕ) (a : Answer) → (length c ≡ 256 → ⊥) → printed_of c messages a ≡ []
unfolding printed_of
printed-none c messages a h = simp (ne_eqb (length c) 256 h)
