-- `walking::step` meets its contract.
use mathlib.Core.Path.{◌∙◌}
use lib.ListN.{length}
use Rattle.reader.specs.Window.{window_of}
use Rattle.plan.proofs.Plans.{by-known, take-fits, end_fits}
use Rattle.walking.proofs.step.Goals as goal

pub returns-in-Refuse : goal.returns-in-Refuse
returns-in-Refuse c = c.refused.ensures ∙ by-known (window_of c.args.w.reading) c.args.w c.args.piece.now c.plan_step.ensures.value c.in-Refuse.is

pub wants_more-requires : goal.wants_more-requires
wants_more-requires c =
    let a = c.args in
    take-fits a.w (length a.piece.now) c.plan_step.result c.in-Take.is c.plan_step.ensures.plan_holds

pub returns-in-Take : goal.returns-in-Take
returns-in-Take c = c.wants_more.ensures ∙ by-known (window_of c.args.w.reading) c.args.w c.args.piece.now c.plan_step.ensures.value c.in-Take.is

pub done-requires : goal.done-requires
done-requires c =
    let a = c.args in
    let e = end_fits a.w (length a.piece.now) c.in-End.used c.in-End.size c.plan_step.result c.in-End.is c.plan_step.ensures.plan_holds in
    record { ready = e.0; size_bound = e.1 }

pub returns-in-End : goal.returns-in-End
returns-in-End c = c.done.ensures ∙ by-known (window_of c.args.w.reading) c.args.w c.args.piece.now c.plan_step.ensures.value c.in-End.is
