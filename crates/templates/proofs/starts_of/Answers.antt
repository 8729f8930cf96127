use mathlib.Core.Path.{refl, ◌∙◌}
use native.Mathlib.Omega.{arith}
use lib.ListN.{length-set}
use Rattle.templates.specs.Templates.{template_of, starts_of}
use Rattle.templates.proofs.Laws.{template-more, starts_more}
use Rattle.templates.proofs.starts_of.Goals as goal

pub loop-start-init : goal.loop-start-init
unfolding template_of starts_of
loop-start-init c = record { long = refl; inside = omega arith; here = refl; before = refl }

pub loop-start-preserved : goal.loop-start-preserved
loop-start-preserved c =
    let i = c.loop-start.invariant in
    let k = c.loop-start.start-index in
    let t = c.loop-start.t.now in
    record {
      long = length-set c.loop-start.start-items k _ ∙ i.long;
      inside = omega (arith, c.behind-t.ensures.inside, i.inside);
      here = c.behind-t.ensures.rest ∙ template-more c.args.table.now t k i.here;
      before = starts_more c.args.table.now t k i.here c.loop-start.start-items (omega arith) i.before;
    }
