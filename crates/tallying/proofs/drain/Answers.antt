use native.Mathlib.Omega.{arith}
use borrow.Author.Rules.{rules}
use Rattle.tallying.specs.Counts.{Counted, none}
use Rattle.tallying.proofs.Counting.{counter-below, rises, counts}
use Rattle.tallying.proofs.Skimming.{onward, turned, tightly-on, tightly-rise, counted-on}
use Rattle.tallying.proofs.drain.Goals as goal
use Rattle.tallying.proofs.drain.Goals.{Joined-strict, then-strict, else-strict}

-- the counters behind the first skim of a strict reading, and without one
started : (c : Joined-strict) → Counted c.args.reading c.args.b.now c.args.s c.args.count.now c.if-strict.s c.if-strict.count
started c =
    let p : Counted c.args.reading c.args.b.now c.args.s c.args.count.now c.args.s c.args.count.now = record { taken = none; counted = c.requires.counted } in
    elim c.if-strict.branch [
      | then-strict w ↦ rw (w.s-is, w.count-is) (tightly-on p w.skim_strictly-f.ensures w.on-s.ensures)
      | else-strict w ↦ rw (w.s-is, w.count-is) p
    ]

pub loop-message-init : goal.loop-message-init
loop-message-init c =
    record {
      taken = none;
      counted = (started c).counted;
    }

pub returns-in_default : goal.returns-in_default
returns-in_default c =
    let p = counted-on (started (goal.at.returns-in_default c).Joined-strict) (onward c.loop-message.invariant c.requires.table c.skim-t.ensures) in
    let q = c.in_default.not-Message in
    record { last = c.skim-t.result; taken = p.taken; step = c.next_of-step.ensures; stops = q; counted = counts _ _ _ _ _ p.counted c.next_of-step.ensures q }

pub overflow_add-count : goal.overflow_add-count
overflow_add-count c =
    omega (arith, c.next_of-step.type_inv, rises _ _ _ _ _ c.next_of-step.ensures c.in-Message.is, counter-below c.from.result c.skim-t.ensures.counted)

pub skim_strictly-f-requires-then-strict-2-clause-counted : goal.skim_strictly-f-requires-then-strict-2-clause-counted
skim_strictly-f-requires-then-strict-2-clause-counted c =
    let t = turned _ c.loop-message.invariant c.requires.table c.skim-t.ensures c.next_of-step.ensures c.in-Message.is (search rules) in
    rw c.from.ensures t.0.counted

pub loop-message-smaller-then-strict-2 : goal.loop-message-smaller-then-strict-2
loop-message-smaller-then-strict-2 c =
    let t = turned _ c.loop-message.invariant c.requires.table c.skim-t.ensures c.next_of-step.ensures c.in-Message.is (search rules) in
    omega (arith, t.1, tightly-rise c.args.reading c.next_of-step.result.state c.skim_strictly-f-then-strict-2.ensures c.on-s-then-strict-2.ensures, c.on-s-then-strict-2.type_inv)

pub loop-message-preserved-then-strict-2 : goal.loop-message-preserved-then-strict-2
loop-message-preserved-then-strict-2 c =
    let t = turned _ c.loop-message.invariant c.requires.table c.skim-t.ensures c.next_of-step.ensures c.in-Message.is (search rules) in
    tightly-on (rw c.from.ensures t.0) c.skim_strictly-f-then-strict-2.ensures c.on-s-then-strict-2.ensures

pub loop-message-smaller : goal.loop-message-smaller
loop-message-smaller c =
    let t = turned _ c.loop-message.invariant c.requires.table c.skim-t.ensures c.next_of-step.ensures c.in-Message.is (search rules) in
    omega (arith, t.1, c.next_of-step.type_inv)

pub loop-message-preserved : goal.loop-message-preserved
loop-message-preserved c =
    let t = turned _ c.loop-message.invariant c.requires.table c.skim-t.ensures c.next_of-step.ensures c.in-Message.is (search rules) in
    rw c.from.ensures t.0
