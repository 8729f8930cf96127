use mathlib.Core.Path.{sym, ◌∙◌}
use native.Mathlib.Omega.{arith}
use Rattle.feeding.proofs.Turns.{ready-is, ready-not, turned}
use Rattle.tallying.proofs.Counting.{counters-on, drained-calls}
use Rattle.tallying.proofs.Going.{going_start, tallied-next, tallied-read, going_on}
use borrow.Author.Rules.{rules}
use Rattle.tallying.proofs.run.Goals as goal

pub loop-buf-init : goal.loop-buf-init
loop-buf-init c = rw c.fresh-s.ensures (c.requires, going_start _ _ _ _ c.unread-b.ensures.1 (search rules))

pub returns-in_default : goal.returns-in_default
returns-in_default c = tallied-next c.loop-buf.invariant.1 c.drain-step.ensures c.in_default.not-Wants

pub returns-then-not-ready : goal.returns-then-not-ready
returns-then-not-ready c =
    tallied-read c.loop-buf.invariant.1 c.drain-step.ensures c.in-Wants.is _ _ c.feed-turn.ensures
    (ready-not _ (sym c.ready.ensures ∙ c.if-not-ready.true))

pub loop-buf-smaller : goal.loop-buf-smaller
loop-buf-smaller c = omega (arith, c.drain-step.type_inv, drained-calls c.drain-step.ensures, (turned _ _ _ _ _ c.feed-turn.ensures).calls (ready-is _ (sym c.ready.ensures ∙ c.if-not-ready.false)))

pub loop-buf-preserved : goal.loop-buf-preserved
loop-buf-preserved c = (
  counters-on c.drain-step.ensures.counted (turned _ _ _ _ _ c.feed-turn.ensures).messages,
  going_on c.loop-buf.invariant.1 c.drain-step.ensures c.in-Wants.is _ _ c.feed-turn.ensures
      (ready-is _ (sym c.ready.ensures ∙ c.if-not-ready.false)),
)
