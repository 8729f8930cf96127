-- `tables::legal` meets its contract.
use Rattle.tables.proofs.Bits.{legal-bit}
use Rattle.tables.proofs.legal.Goals as goal

pub returns : goal.returns
returns c = λ k e. legal-bit _ k c.mask.ensures e
