-- The table is that of the pairs.
use Rattle.std.proofs.Common.{refl}
use Rattle.lines.specs.Whole.{pairs, pairs_from}
use Rattle.lines.proofs.digits.Digits.new.Goals as goal

pub invariant_of-result : goal.invariant_of-result
unfolding pairs pairs_from
invariant_of-result c = record { listed = refl }
