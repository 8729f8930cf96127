-- `lines::ok_tag` meets its contract.
use Prim.Native.Nat.{suc, ◌+◌}
use mathlib.Core.Path.{◌≡◌}
use native.Mathlib.Numerals.{add-one}
use native.Mathlib.Omega.{arith}
use lib.ListN.{length-set}
use Rattle.lines.proofs.ok_tag.Goals as goal

pub bounds-out-at-2 : goal.bounds-out-at-2
bounds-out-at-2 c = simp length-set (omega arith)

pub bounds-out-at-3 : goal.bounds-out-at-3
bounds-out-at-3 c = simp length-set (omega arith)

pub bounds-out-at-4 : goal.bounds-out-at-4
bounds-out-at-4 c = simp length-set (omega arith)

pub bounds-out-at-5 : goal.bounds-out-at-5
bounds-out-at-5 c = simp length-set (omega arith)

pub bounds-out-at-6 : goal.bounds-out-at-6
bounds-out-at-6 c = simp length-set (omega arith)

pub returns : goal.returns
returns c =
    let two : c.args.at + 2 ≡ suc (suc c.args.at) = omega arith in
    let three : c.args.at + 3 ≡ suc (suc (suc c.args.at)) = omega arith in
    let four : c.args.at + 4 ≡ suc (suc (suc (suc c.args.at))) = omega arith in
    let five : c.args.at + 5 ≡ suc (suc (suc (suc (suc c.args.at)))) = omega arith in
    record { bytes = rw (add-one, two, three, four, five); next = omega arith; inside = omega arith }
