-- `plain::tight` meets its contract.
use native.Mathlib.Omega.{arith}
use borrow.Author.Tests.{lt-ltb, le-ltb, eq-eqb, ne_eqb}
use lib.Bits.{and_le_r}
use Rattle.plain.proofs.tight.Goals as goal

pub returns-then-v-ge-DAY : goal.returns-then-v-ge-DAY
returns-then-v-ge-DAY c = rw (le-ltb _ _ c.if-v-ge-DAY.true)

pub overflow_add-low : goal.overflow_add-low
overflow_add-low c = omega (arith, and_le_r c.args.stock 0x7f7f7f7f7f7f7f7f)

pub returns-then-low-high-ne0 : goal.returns-then-low-high-ne0
returns-then-low-high-ne0 c = rw (lt-ltb _ _ c.if-v-ge-DAY.false, ne_eqb _ _ c.if-low-high-ne0.true)

pub overflow_add-result : goal.overflow_add-result
overflow_add-result c = omega (arith, and_le_r c.args.stock 0x7f7f7f7f7f7f7f7f)

pub returns : goal.returns
returns c = rw (lt-ltb _ _ c.if-v-ge-DAY.false, eq-eqb _ _ c.if-low-high-ne0.false)
