-- `plain::end_by` meets its contract.
use Prim.Native.Nat.{ℕ, ◌*◌, ◌/◌, ◌%◌, ◌^◌, ◌<◌, ◌≤◌}
use native.Mathlib.Omega.{arith}
use native.Mathlib.Nat.{mul-le-mul}
use borrow.Author.Tests.{eq-eqb, ne_eqb}
use borrow.Author.Rules.{rules}
use Rattle.plain.proofs.end_by.Goals as goal

-- the two bits' product is a bit
one : (r c : ℕ) → r < 2 ^ 64 → r / 2 ^ 63 * (c / 512 % 2) ≤ 1
one r c h = mul-le-mul {n₂ = 1} {m₂ = 1} (omega arith) (omega arith)

pub overflow_mul-legal : goal.overflow_mul-legal
overflow_mul-legal c = record { fits = let h = one c.args.r c.args.c (search rules) in omega arith }

pub overflow_add-legal : goal.overflow_add-legal
overflow_add-legal c = record { fits = let h = one c.args.r c.args.c (search rules) in omega arith }

pub returns-then-legal-eq0 : goal.returns-then-legal-eq0
returns-then-legal-eq0 c = simp (eq-eqb _ _ c.if-legal-eq0.true)

pub returns-then-stock-order-ne0 : goal.returns-then-stock-order-ne0
returns-then-stock-order-ne0 c = simp (ne_eqb _ _ c.if-legal-eq0.false, ne_eqb _ _ c.if-stock-order-ne0.true)

pub returns : goal.returns
returns c = simp (ne_eqb _ _ c.if-legal-eq0.false, eq-eqb _ _ c.if-stock-order-ne0.false)
