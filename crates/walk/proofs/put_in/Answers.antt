-- `walk::put_in` meets its contract.
use borrow.Author.Rules.{rules}
use Rattle.walk.proofs.Held.{put-part}
use Rattle.walk.proofs.put_in.Goals as goal

pub returns : goal.returns
returns c = put-part c.args.held c.fill.new.free c.args.piece.now 52 c.args.seen c.min.result (search rules) c.min.ensures c.fill.ensures
