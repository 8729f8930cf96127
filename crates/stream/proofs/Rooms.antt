-- Make room, where the tests are passed: a window at the buffer's end moves to the front, any other stays where it is.
-- Assumes nothing.
use Prim.Native.Nat.{ℕ, ◌-◌, ◌≤◌, ◌<◌}
use mathlib.Core.Path.{◌≡◌}
use mathlib.Core.List.{List}
use borrow.Author.Tests.{le-leb, lt-leb, eq-eqb, ne_eqb}
use lib.ListN.{length}
use Rattle.stream.specs.declared.Stream.{Stream}
use Rattle.stream.specs.Room.{moved, room_tests, roomy, room_of, room_buffer}

-- neither 31, 30, 34 nor 33
pub record Passes (s : Stream) (len : ℕ) : Type 0 where
  pub whole : len ≡ 8192
  pub ordered : s.start ≤ s.end
  pub inside : s.end ≤ 8192
  pub few : s.end - s.start < 52
  pub counts : s.read_calls ≡ 18446744073709551615 → ⊥

passed : {A : Type 0} (s : Stream) (len : ℕ) (bad : ℕ → A) (go : A) → Passes s len → room_tests s len bad go ≡ go
passed s len bad go p =
    simp (eq-eqb _ _ p.whole, le-leb _ _ p.ordered, le-leb _ _ p.inside, lt-leb _ _ p.few, ne_eqb _ _ p.counts)

pub at-end : (s : Stream) (b : List ℕ) → Passes s (length b) → s.end ≡ 8192
    → (room_of s (length b) ≡ roomy s 0 (s.end - s.start)) × (room_buffer s b ≡ moved b s.start)
unfolding room_of room_buffer
at-end s b p e = (rw (passed s (length b) _ _ p, eq-eqb _ _ e), rw (passed s (length b) _ _ p, eq-eqb _ _ e))

pub before-end : (s : Stream) (b : List ℕ) → Passes s (length b) → (s.end ≡ 8192 → ⊥)
    → (room_of s (length b) ≡ roomy s s.start s.end) × (room_buffer s b ≡ b)
unfolding room_of room_buffer
before-end s b p f = (rw (passed s (length b) _ _ p, ne_eqb _ _ f), rw (passed s (length b) _ _ p, ne_eqb _ _ f))
