-- `walk::zero_from` meets its contract.
use mathlib.Core.Path.{◌∙◌}
use borrow.Author.Rules.{rules}
use Rattle.walk.proofs.Held.{zeros-part}
use Rattle.walk.proofs.zero_from.Goals as goal

pub returns : goal.returns
returns c = c.all_zero.ensures ∙ zeros-part c.args.held.now 52 c.args.from c.min.result (search rules) c.min.ensures
