-- `format::read_header` meets its contract.
use Rattle.format.proofs.Heads.{header-short, header-got}
use Rattle.format.proofs.read_header.Goals as goal

pub returns-then-s-lt13 : goal.returns-then-s-lt13
returns-then-s-lt13 c = header-short _ c.if-s-lt13.true

pub returns : goal.returns
returns c = header-got _ (λ i. (c.type_inv.s i).fits) c.if-s-lt13.false c.be2.ensures.0 c.be8-v.ensures.0
