-- `flat::message` meets its contract.
use Rattle.flat.proofs.message.Goals as goal

pub returns : goal.returns
returns c = rw (c.body_numbers-v.ensures, c.from.ensures, c.from-2.ensures, c.from-3.ensures)
