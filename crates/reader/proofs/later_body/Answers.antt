-- `reader::later_body` meets its contract.
use Rattle.reader.proofs.later_body.Goals as goal

pub returns-then-halt : goal.returns-then-halt
returns-then-halt c = rw c.if-halt.true c.parse_operational_halt.ensures

pub returns : goal.returns
returns c = rw c.if-halt.false c.parse_direct_listing.ensures
