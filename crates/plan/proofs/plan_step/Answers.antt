-- `plan::plan_step` meets its contract.
use mathlib.Core.Path.{sym, ◌∙◌}
use native.Mathlib.Omega.{arith}
use lib.ListN.{length}
use Rattle.walk.proofs.Held.{put-started}
use Rattle.walk.proofs.Cases.{ready_gives}
use Rattle.plan.specs.Plan.{PlanHolds}
use Rattle.plan.proofs.Plans.{plan-30, plan-33, plan-take, plan-end}
use Rattle.plan.proofs.plan_step.Goals as goal

pub returns-then-not-sound : goal.returns-then-not-sound
unfolding PlanHolds
returns-then-not-sound c = record { value = plan-30 c.args.w c.args.piece.now (sym c.sound.ensures ∙ c.if-not-sound.true); plan_holds = tt }

pub returns-then-not-room : goal.returns-then-not-room
unfolding PlanHolds
returns-then-not-room c =
    let s = sym c.sound.ensures ∙ c.if-not-sound.false in
    record { value = plan-33 c.args.w c.args.piece.now s (sym c.room.ensures ∙ c.if-not-room.true); plan_holds = tt }

pub overflow_sub-result : goal.overflow_sub-result
overflow_sub-result c =
    let a = c.args in
    let s = sym c.sound.ensures ∙ c.if-not-sound.false in
    let y = ready_gives a.w (length a.piece.now) s (sym c.room.ensures ∙ c.if-not-room.false) in
    omega (arith, c.size_at-size.ensures, put-started a.w.held a.w.seen a.piece.now y.started)

pub returns-then-size-total : goal.returns-then-size-total
unfolding PlanHolds
returns-then-size-total c =
    let a = c.args in
    let s = sym c.sound.ensures ∙ c.if-not-sound.false in
    let r = sym c.room.ensures ∙ c.if-not-room.false in
    record { value = plan-end a.w a.piece.now s r c.size_at-size.result c.size_at-size.ensures c.if-size-total.true; plan_holds = (ready_gives a.w (length a.piece.now) s r, c.if-size-total.true) }

pub returns : goal.returns
unfolding PlanHolds
returns c =
    let a = c.args in
    let s = sym c.sound.ensures ∙ c.if-not-sound.false in
    let r = sym c.room.ensures ∙ c.if-not-room.false in
    record { value = plan-take a.w a.piece.now s r c.size_at-size.result c.size_at-size.ensures c.if-size-total.false; plan_holds = ready_gives a.w (length a.piece.now) s r }
