-- `plain::strictly` meets its contract.
use mathlib.Core.Path.{◌≡◌, refl, sym, ◌∙◌}
use mathlib.Core.Bool.{Bool, true, false, cond}
use mathlib.Core.List.{List}
use Prim.Native.Nat.{ℕ, ◌<◌}
use native.Mathlib.Omega.{arith}
use borrow.Author.Tests.{lt-leb, le-leb}
use lib.ListN.{length, get_or}
use Rattle.format.specs.Layout.{be, part}
use Rattle.plain.specs.Plain.{plain_of, tight_by, strictly_of}
use Rattle.plain.proofs.Numbers.{number-there, number_is}
use Rattle.plain.proofs.strictly.Goals as goal

-- a window below 52 bytes
below : (w rows : List ℕ) → length w < 52 → 0 ≡ strictly_of w rows
unfolding strictly_of plain_of
below w rows h = rw (lt-leb 52 (length w) h) (go (tight_by (be (part w 5 8)) (get_or rows (get_or w 2 0) 0) (be (part w 26 8))))
  where
    go : (t : Bool) → ◌≡◌ {A = ℕ} 0 (cond t 0 0)
    go true = refl
    go false = refl

pub returns-then-w-lt52 : goal.returns-then-w-lt52
returns-then-w-lt52 c = below _ _ c.if-w-lt52.true

pub returns-in_default : goal.returns-in_default
returns-in_default c = absurd (number-there _ 26 _ (omega (arith, c.if-w-lt52.false)) c.in_default.ensures)

pub returns-in_default-number_at : goal.returns-in_default-number_at
returns-in_default-number_at c = absurd (number-there _ 5 _ (omega (arith, c.if-w-lt52.false)) c.in_default-number_at.ensures)

pub returns-then-not-tight : goal.returns-then-not-tight
unfolding strictly_of
returns-then-not-tight c =
    let s = number_is _ 26 (omega (arith, c.if-w-lt52.false)) c.in-Ok.ensures in
    let v = number_is _ 5 (omega (arith, c.if-w-lt52.false)) c.in-Ok-number_at.ensures in
    let t = sym (c.if-not-tight.true) ∙ c.tight.ensures in
    rw (sym (rw (c.row-r.ensures, s, v) at t))

pub returns : goal.returns
unfolding strictly_of plain_of
returns c =
    let s = number_is _ 26 (omega (arith, c.if-w-lt52.false)) c.in-Ok.ensures in
    let v = number_is _ 5 (omega (arith, c.if-w-lt52.false)) c.in-Ok-number_at.ensures in
    let t = sym (c.if-not-tight.false) ∙ c.tight.ensures in
    rw (sym (rw (c.row-r.ensures, s, v) at t), le-leb _ _ c.if-w-lt52.false) (rw (c.row-r.ensures, c.row.ensures, s) at c.end_by-n.ensures)
