-- An empty piece changes nothing, whatever the state.
-- Assumes nothing.
use Prim.Native.Nat.{ℕ}
use mathlib.Core.Path.{◌≡◌, refl, sym}
use mathlib.Core.Bool.{Bool, true, false}
use mathlib.Core.List.{List, []}
use native.Mathlib.Nat.{add-zero}
use native.Mathlib.Omega.{arith}
use Rattle.reader.specs.Window.{Window}
use Rattle.walk.specs.declared.Walk.{Walk}
use Rattle.walk.specs.Walk.{frame_size, sound_of, countable, step_of}
use Rattle.walk.proofs.Held.{put-nil}
use Rattle.walk.proofs.Cases.{ready_gives, step-30, step-33, step-moves, moved_more}

pub empty-piece : (win : List ℕ → Window) (w : Walk) → ((step_of win w []).state ≡ w) × ((step_of win w []).used ≡ 0)
empty-piece win w = sound (sound_of w) refl
  where
    room : (b : Bool) → sound_of w ≡ true → countable w.offset w.seen 0 ≡ b → ((step_of win w []).state ≡ w) × ((step_of win w []).used ≡ 0)
    room false s r = rw (← step-33 win w [] s r) (refl, refl)
    room true s r =
        let q = ready_gives w 0 s r in
        let n = put-nil w.held w.seen in
        rw (
          step-moves win w [] s r,
          ← moved_more win w [] w.held (frame_size w.held) (sym n) (rw n) (omega (arith, q.started)),
          add-zero w.seen,
        ) (refl, refl)

    sound : (b : Bool) → sound_of w ≡ b → ((step_of win w []).state ≡ w) × ((step_of win w []).used ≡ 0)
    sound false s = rw (← step-30 win w [] s) (refl, refl)
    sound true s = room (countable w.offset w.seen 0) s refl
