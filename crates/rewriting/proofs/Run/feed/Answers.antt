-- `rewriting::Run::feed` meets its contract.
use Prim.Native.Nat.{◌+◌}
use lib.ListN.{set}
use Rattle.rewriting.proofs.Same.{read-of-all}
use Rattle.rewriting.proofs.Run.feed.Goals as goal

pub count-requires : goal.count-requires
count-requires c =
    let s = c.args.self.now in
    read-of-all s.reading (set s.window s.have c.args.b) (s.have + 1) c.parse_message.result c.in-Ok.m c.in-Ok.n c.parse_message.ensures c.in-Ok.is
