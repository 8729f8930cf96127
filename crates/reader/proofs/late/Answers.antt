-- `reader::late` meets its contract.
use Rattle.reader.proofs.late.Goals as goal

pub returns-then-strict : goal.returns-then-strict
returns-then-strict c = rw c.if-strict.true
