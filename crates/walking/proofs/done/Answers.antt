-- `walking::done` meets its contract.
use Rattle.walk.specs.Walk.{done_of}
use Rattle.walking.proofs.done.Goals as goal

pub returns : goal.returns
unfolding done_of
returns c = rw (c.past.ensures c.judge_joined-v.result c.count.ensures, c.judge_joined-v.ensures)
