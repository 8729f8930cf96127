-- `stream::next_of` meets its contract. Each test that led to a return picks the case of `next_of`.
use mathlib.Core.Path.{◌≡◌, sym, ap, ◌∙◌}
use borrow.Author.Tests.{eq-eqb, ne_eqb}
use native.Mathlib.Omega.{arith}
use Rattle.std.specs.Prelude.{Err}
use Rattle.reader.proofs.Back.{exactly}
use Rattle.reader.specs.Window.{Window}
use Rattle.stream.specs.declared.Step.{Step}
use Rattle.stream.specs.Next.{next_of}
use Rattle.stream.proofs.Bounds.{orders, joined}
use Rattle.stream.proofs.Windows.{Decides, decides, within}
use Rattle.stream.proofs.next_of.Goals as goal
use Rattle.stream.proofs.next_of.Goals.{After-parse_message}

-- behind the tests the reader's answer decides
decided : (c : After-parse_message) {w : Window} → c.parse_message.result ≡ w
    → Decides c.args.reading c.args.s c.args.buf.now w
decided c d =
    decides _ _ _ c.parse_message.result c.if-buf-ne8192.false (sym c.in_bounds.ensures ∙ c.if-not-in_bounds.false) c.parse_message.ensures d

pub returns-then-buf-ne8192 : goal.returns-then-buf-ne8192
unfolding next_of
returns-then-buf-ne8192 c = simp (ne_eqb _ _ c.if-buf-ne8192.true) c.refused.ensures

pub returns-then-not-in_bounds : goal.returns-then-not-in_bounds
unfolding next_of
returns-then-not-in_bounds c = simp (eq-eqb _ _ c.if-buf-ne8192.false, joined {A = Step}, sym c.in_bounds.ensures ∙ c.if-not-in_bounds.true) c.refused-then-not-in_bounds.ensures

pub returns-then-s : goal.returns-then-s
returns-then-s c = simp (decided (goal.at.returns-then-s c).After-parse_message c.in-Ok.is, eq-eqb _ _ c.if-s.true) c.refused-then-s.ensures

pub overflow_add-result : goal.overflow_add-result
overflow_add-result c =
    let w = sym (exactly _ _ c.parse_message.result c.parse_message.ensures) ∙ c.in-Ok.is in
    let o = orders c.args.s (sym c.in_bounds.ensures ∙ c.if-not-in_bounds.false) in
    omega (arith, o.0, o.1, within c.args.reading c.args.s c.args.buf.now _ _ w)

pub returns-else-s : goal.returns-else-s
returns-else-s c = simp (decided (goal.at.returns-else-s c).After-parse_message c.in-Ok.is, ne_eqb _ _ c.if-s.false)

pub returns-in-Err-Short : goal.returns-in-Err-Short
returns-in-Err-Short c = sym (decided (goal.at.returns-in-Err-Short c).After-parse_message (c.in-Err-Short.is ∙ ap Err c.in-Err-Short.field-0-is))

pub returns-in-Err-Refused : goal.returns-in-Err-Refused
returns-in-Err-Refused c = c.marked.ensures ∙ sym (decided (goal.at.returns-in-Err-Refused c).After-parse_message (c.in-Err-Refused.is ∙ ap Err c.in-Err-Refused.field-0-is))
