-- What a step of the walk answers, in the scope's numbers and values, by the window's answer `reads`.
-- Assumes nothing.
use Rattle.std.specs.Prelude.{ℕ, ◌+◌, min, cond, List, ltb, length, take}
use Rattle.format.specs.Layout.{Answer, accepted, incomplete, refuses}
use Rattle.walk.specs.declared.Walk.{Walk}
use Rattle.walk.specs.Walk.{frame_size, sound_of, countable, put}
use Rattle.walk.specs.Meaning.{Ruling, accepted as accepts, refused, Report, frame, more, fault}

-- the frame rule: incomplete is 20, accepted with bytes left over is 21
abbrev pub ruling_of : Answer → ℕ → Ruling
ruling_of (accepted v used) size = cond (ltb used size) (refused 21 0) (accepts v)
ruling_of incomplete size = refused 20 0
ruling_of (refuses n p) size = refused n p

module _ (reads : List ℕ → Answer) where
  -- h is held with the piece put in, n the piece's length: more is wanted until the frame's last byte came
  abbrev pub moved_report : Walk → List ℕ → ℕ → Report
  moved_report w h n =
      cond (ltb (w.seen + n) (frame_size h)) more (frame w.offset (frame_size h) (ruling_of (reads (take (min (frame_size h) 52) h)) (frame_size h)))

  -- 30, 33, then so
  abbrev pub step_report : Walk → List ℕ → Report
  step_report w piece =
      cond (sound_of w)
      (cond (countable w.offset w.seen (length piece)) (moved_report w (put w.held w.seen piece) (length piece)) (fault 33))
      (fault 30)
