-- The pair of a number stands at twice that number.
use Rattle.std.proofs.Common.{refl, add-one, arith}
use Rattle.lines.proofs.Pairs.{pairs-at}
use Rattle.lines.proofs.digits.Digits.two.Goals as goal

pub returns : goal.returns
returns c =
    let at = pairs-at c.args.n c.requires.0 in
    rw (c.args.self.now.listed, at.0, at.1)
    (record { bytes = rw add-one; next = refl; inside = omega arith })
