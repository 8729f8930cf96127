-- `format::number_at` meets its contract.
use Rattle.format.specs.Layout.{num}
use Rattle.format.proofs.Fields.{field-short, field-low}
use Rattle.format.proofs.number_at.Goals as goal

pub returns-then-s-at : goal.returns-then-s-at
returns-then-s-at g c = field-short (num g.T.Number.WIDTH) _ _ (rw c.WIDTH.ensures at c.if-s-at.true)

pub be-requires : goal.be-requires
be-requires g c = (rw c.WIDTH-2.ensures (rw c.WIDTH.ensures at c.if-s-at.false), rw c.WIDTH-2.ensures g.met.T.Number.width)

pub returns : goal.returns
returns g c =
    let b = rw c.WIDTH-2.ensures at c.be.ensures in
    field-low g.T.Number.WIDTH _ _ (rw c.WIDTH.ensures at c.if-s-at.false, b.0, b.1) c.low.ensures
