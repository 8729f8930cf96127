-- `plan::byte_at` meets its contract.
use mathlib.Core.Path.{sym}
use native.Mathlib.Omega.{arith}
use Rattle.walk.proofs.Held.{put_low, put-there, put-behind}
use Rattle.plan.proofs.byte_at.Goals as goal
use Rattle.plan.proofs.byte_at.Goals.{in_default-via-in-Some+else-k-piece, in_default-via-in_default}

pub returns-in-Some : goal.returns-in-Some
returns-in-Some c = let h = c.in-Some.ensures in sym (put-there _ _ _ _ _ (omega (arith, h)) (omega arith) c.if-k-piece.true)

pub returns-in_default : goal.returns-in_default
returns-in_default c =
    elim c.in_default.branch [
      | in_default-via-in-Some+else-k-piece w ↦ let h = w.in-Some.ensures in sym (put-behind _ _ _ _ (omega (arith, h)))
      | in_default-via-in_default w ↦ let h = w.in_default.ensures in sym (put_low _ _ _ _ (omega (arith, h)))
    ]
