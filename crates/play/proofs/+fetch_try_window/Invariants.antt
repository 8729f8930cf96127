-- What falls in `play::fetch` and `play::try_window`, which call each other: the unread bytes of the slice, counted twice, and one more in `try_window`, so
-- that each call goes down.
use Prim.Native.Nat.{◌+◌, ◌-◌}
use lib.ListN.{length}
use Rattle.play.proofs.+fetch_try_window.Given as goal

abbrev pub decreases-fetch : goal.decreases-fetch
decreases-fetch l = (length l.tape.src.now - l.at) + (length l.tape.src.now - l.at)

abbrev pub decreases-try_window : goal.decreases-try_window
decreases-try_window l = (length l.tape.src.now - l.at) + (length l.tape.src.now - l.at) + 1
