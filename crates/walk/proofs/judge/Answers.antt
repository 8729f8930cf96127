-- `walk::judge` meets its contract.
use Prim.Native.Nat.{min}
use Rattle.reader.proofs.Back.{exactly}
use Rattle.walk.specs.Walk.{judge_of}
use Rattle.walk.proofs.Held.{take-least}
use Rattle.walk.proofs.judge.Goals as goal

pub returns : goal.returns
unfolding judge_of
returns c =
    let p = exactly _ _ c.parse_message.result c.parse_message.ensures in
    rw (c.turned.ensures, p, c.min-n.ensures, c.min.ensures, take-least (min c.args.size 52) c.args.s.now)
