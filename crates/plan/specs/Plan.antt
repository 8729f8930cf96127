-- What a step of the walk is to do with a piece.
-- Assumes nothing.
use Rattle.std.specs.Prelude.{ℕ, ◌+◌, ◌-◌, ◌≤◌, List, cond, length, ltb}
use Rattle.walk.specs.declared.Walk.{Walk}
use Rattle.walk.specs.Walk.{frame_size, sound_of, countable, put, Ready}
use Rattle.plan.specs.declared.Plan.{Plan}
use Rattle.plan.specs.declared.Plan.TheVariants.{Refuse, Take, End}

-- h is held with the piece put in, n the piece's length
abbrev pub plan_by : Walk → List ℕ → ℕ → Plan
plan_by w h n = cond (ltb (w.seen + n) (frame_size h)) Take (End (frame_size h - w.seen) (frame_size h))

unfoldable pub plan_of : Walk → List ℕ → Plan
plan_of w piece =
    cond (sound_of w)
    (cond (countable w.offset w.seen (length piece)) (plan_by w (put w.held w.seen piece) (length piece)) (Refuse 33)) (Refuse 30)

-- what is known of the state where a step over n bytes does not refuse; a frame that ends has all its bytes
unfoldable pub PlanHolds : Plan → Walk → ℕ → Type 0
PlanHolds (Refuse number) w n = Unit {0}
PlanHolds Take w n = Ready w n
PlanHolds (End used size) w n = Ready w n × (size ≤ w.seen + n)
