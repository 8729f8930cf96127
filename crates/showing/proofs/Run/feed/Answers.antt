-- `showing::Run::feed` meets its contract.
use lib.ListN.{length}
use mathlib.Core.Path.{◌≡◌}
use native.Mathlib.Omega.{arith}
use borrow.Author.Rules.{rules}
use Rattle.showing.proofs.Answers.{free-inside}
use Rattle.showing.proofs.Run.feed.Goals as goal

pub slice_bounds-bring-count : goal.slice_bounds-bring-count
slice_bounds-bring-count g c =
    let l : length c.args.self.now.buf ≡ 8192 = search rules in
    let h = free-inside c.args.self.now.last.state (length c.args.self.now.buf) c.make_room-self.result c.make_room-self.ensures.value (search rules) in
    omega arith

pub slice_bounds-bring-start : goal.slice_bounds-bring-start
slice_bounds-bring-start g c =
    let l : length c.args.self.now.buf ≡ 8192 = search rules in
    let h = free-inside c.args.self.now.last.state (length c.args.self.now.buf) c.make_room-self.result c.make_room-self.ensures.value (search rules) in
    omega arith
