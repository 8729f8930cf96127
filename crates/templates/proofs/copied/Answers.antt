-- `templates::copied` meets its contract.
use Prim.Native.Nat.{◌+◌, ◌-◌}
use mathlib.Core.Path.{◌≡◌}
use native.Mathlib.Omega.{arith}
use lib.ListN.{length}
use Rattle.templates.proofs.Laws.{wrote-copy}
use Rattle.templates.proofs.copied.Goals as goal

pub returns : goal.returns
returns c =
    let n = length c.args.text.now in
    let k : c.args.at + n - c.args.at ≡ n = omega arith in
    rw (c.copy_from_slice.ensures.after, k) (wrote-copy c.args.text.now c.args.out.now c.args.at c.requires)
