-- `templates::letter` meets its contract.
use native.Mathlib.Omega.{arith}
use borrow.Author.Tests.{eq-eqb, ne_eqb}
use Rattle.templates.specs.Templates.{letter_of}
use Rattle.templates.proofs.letter.Goals as goal

pub returns-then-kind-eq110 : goal.returns-then-kind-eq110
unfolding letter_of
returns-then-kind-eq110 c = rw (eq-eqb _ 110 c.if-kind-eq110.true) (record { wrote = c.decimal.ensures.wrote; upper_bound = c.decimal.ensures.upper_bound })

pub bytes-requires : goal.bytes-requires
bytes-requires c = omega (arith, c.width.ensures.1)

pub returns : goal.returns
unfolding letter_of
returns c = record { wrote = rw (ne_eqb _ 110 c.if-kind-eq110.false, ← c.width.ensures.0) c.bytes.ensures.wrote; upper_bound = omega (arith, c.bytes.ensures.upper_bound, c.width.ensures.1) }
