-- `templates::split` meets its contract.
use mathlib.Core.Path.{◌∙◌}
use native.Mathlib.Omega.{arith}
use lib.ListN.{length-drop}
use lib.Seq.{length-take-le}
use Rattle.templates.proofs.Laws.{first-until, first-from}
use Rattle.templates.proofs.split.Goals as goal

pub returns : goal.returns
returns c =
    let f = c.find.ensures in
    let t = c.args.t.now in
    record {
      parts = (
        c.split_at.ensures.front ∙ first-until c.args.mark t c.find.result f.within f.before f.found,
        c.split_at.ensures.back ∙ first-from c.args.mark t c.find.result f.within f.before f.found,
      );
      long = rw (c.split_at.ensures.front, c.split_at.ensures.back) (omega (arith, length-take-le c.find.result t f.within, length-drop c.find.result t));
    }
