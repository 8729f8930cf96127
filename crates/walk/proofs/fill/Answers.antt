-- `walk::fill` meets its contract.
use Rattle.walk.proofs.Held.{put-least}
use Rattle.walk.proofs.fill.Goals as goal

pub returns : goal.returns
returns c = rw c.copy_from_slice.ensures.after (put-least c.args.free.now c.args.piece.now c.min-n.result c.min-n.ensures)
