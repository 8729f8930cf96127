-- Two answers that a contract allows are equal, and so are the states and the lent bytes that come with them. A contract has one of four forms: it equals a
-- definition (`equals`); its meaning equals one (Unique of laws); it puts a text where there is room (`puts-once`); it walks a block (`walks-once`).
-- Assumes nothing.
use Prim.Native.Nat.{ℕ, ◌+◌}
use mathlib.Core.Path.{◌≡◌, sym, ◌∙◌}
use mathlib.Core.Bool.{Bool}
use mathlib.Core.List.{List}
use mathlib.Core.Logic.{⊎_elim}
use lib.ListN.{length}
use Rattle.format.proofs.Tests.{le-or-lt}
use Rattle.reader.specs.Window.{Window}
use Rattle.walk.specs.declared.Walk.{Walk}
use Rattle.text.specs.Decimal.{Wrote, Puts}
use Rattle.lines.specs.declared.Blocked.{Blocked}
use Rattle.lines.specs.Blocks.{Called}

-- an answer, a state or a buffer that equals a definition
pub equals : {A : Type 0} {x r r' : A} → r ≡ x → r' ≡ x → r ≡ r'
equals e e' = e ∙ sym e'

wrote-once : {t b a a' : List ℕ} {at r r' : ℕ} → Wrote t b at a r → Wrote t b at a' r' → (a ≡ a') × (r ≡ r')
wrote-once p q = (equals p.bytes q.bytes, equals p.next q.next)

-- `decimal`, `number`, `byte` and `bytes` of text, `closing` of closing, `tally` of tally_lines
pub puts-once : {room : ℕ} {t b a a' : List ℕ} {at r r' : ℕ} → Puts room t b at a r → Puts room t b at a' r' → (a ≡ a') × (r ≡ r')
puts-once {room} {t} {b} {a} {a'} {at} {r} {r'} p q =
    ⊎_elim (λ h. wrote-once (p.fits h) (q.fits h))
    (λ h. (equals (p.full h).0 (q.full h).0, equals (p.full h).1 (q.full h).1))
    (le-or-lt (at + room) (length b))

-- `walk_block` of lines
pub walks-once : {quiet : Bool} {win : List ℕ → Window} {w : Walk} {b : List ℕ} {i : ℕ} {out : List ℕ} {at : ℕ} {a a' : List ℕ} {r r' : Blocked}
    → Called quiet win w b i out at a r → Called quiet win w b i out at a' r' → (a ≡ a') × (r ≡ r')
walks-once p q = (equals p.text q.text, equals p.end q.end)
