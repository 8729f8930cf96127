-- What the one test of a window's bounds says: the two orders, and which case of `in_bounds` is taken.
-- Assumes nothing.
use Prim.Native.Nat.{◌≤◌}
use mathlib.Core.Path.{◌≡◌, refl}
use mathlib.Core.Bool.{Bool, true, false, cond, ◌&&◌}
use borrow.Author.Tests.{leb-true}
use lib.Dec.{leb}
use Rattle.std.proofs.lemmas.Bool.{and_parts}
use Rattle.stream.specs.declared.Stream.{Stream}

-- as `Stream::in_bounds` answers
abbrev pub bounded : Stream → Bool
bounded s = leb s.start s.end && leb s.end 8192

pub orders : (s : Stream) → bounded s ≡ true → (s.start ≤ s.end) × (s.end ≤ 8192)
orders s e = let p = and_parts (leb s.start s.end) (leb s.end 8192) e in (leb-true _ _ p.0, leb-true _ _ p.1)

-- the two tests of `in_bounds` as one
pub joined : {A : Type 0} (p q : Bool) (x y : A) → cond p (cond q x y) y ≡ cond (p && q) x y
joined true q x y = refl
joined false q x y = refl
