-- The walk of a whole recording, by frame; and a run of steps over its pieces.
-- Assumes nothing.
use Rattle.std.specs.Prelude.{ℕ, zero, suc, ◌+◌, List, [], ◌∷◌, ◌++◌, cond, length, take, drop, ltb}
use Rattle.format.specs.declared.Reading.{Reading}
use Rattle.reader.specs.Window.{Window}
use Rattle.walk.specs.declared.Walk.{Walk}
use Rattle.walk.specs.declared.Stepped.{Stepped}
use Rattle.walk.specs.declared.Answer.{Answer}
use Rattle.walk.specs.declared.Answer.TheVariants.{Frame, WantsMore, Refused}
use Rattle.walk.specs.Walk.{frame_size, frame_of, count_of, step_of, fresh_of, Verdict}

-- ---- the walk of a whole recording

-- one frame: its offset, its size and its answer
pub record Entry : Type 0 where
  pub at : ℕ
  pub size : ℕ
  pub what : Verdict

-- the frames in order, and the tail's offset and length
pub record Walked : Type 0 where
  pub entries : List Entry
  pub tail : ℕ
  pub left : ℕ

abbrev pub tail_at : List ℕ → ℕ → Walked
tail_at s o = record { entries = []; tail = o; left = length (drop o s) }

abbrev pub after : Entry → Walked → Walked
after e r = record { entries = e ∷ r.entries; tail = r.tail; left = r.left }

-- the sizes, and the accepted, of some frames
unfoldable pub sizes : List Entry → ℕ
sizes [] = 0
sizes (e ∷ es) = e.size + sizes es

unfoldable pub accepts : List Entry → ℕ
accepts [] = 0
accepts (e ∷ es) = count_of e.what + accepts es

-- ---- a run of steps: each piece is offered again from where the step left it, until it is used up

pub data Ended : Type 0 where
  all_used : Ended
  refused_with : ℕ → Ended
  cut_short : Ended

pub record Ran : Type 0 where
  pub entries : List Entry
  pub state : Walk
  pub ended : Ended

abbrev pub told : Entry → Ran → Ran
told e r = record { entries = e ∷ r.entries; state = r.state; ended = r.ended }

-- what an answer leads to: f goes on with the rest of the piece, m with the next piece
abbrev pub follow : Answer → Walk → Ran → Ran → Ran
follow (Frame at size what) w f m = told (record { at = at; size = size; what = what }) f
follow WantsMore w f m = m
follow (Refused number) w f m = record { entries = []; state = w; ended = refused_with number }

-- the bytes of the pieces
unfoldable pub joined : List (List ℕ) → List ℕ
joined [] = []
joined (p ∷ ps) = p ++ joined ps

-- the first n bytes of s, then zeros, n in all
unfoldable pub pad : ℕ → List ℕ → List ℕ
pad zero s = []
pad (suc n) [] = 0 ∷ pad n []
pad (suc n) (x ∷ s) = x ∷ pad n s

-- the state after the walk r of s, from w's counts
abbrev pub state_at : Walk → List ℕ → Walked → Walk
state_at w s r =
    record {
      offset = r.tail;
      seen = r.left;
      held = pad 52 (drop r.tail s);
      frames = w.frames + length r.entries;
      accepted = w.accepted + accepts r.entries;
      reading = w.reading;
    }

-- a run that used all up and told the walk r of s
abbrev pub ran_of : Walk → List ℕ → Walked → Ran
ran_of w s r = record { entries = r.entries; state = state_at w s r; ended = all_used }

-- by a step, at most k of them
unfoldable pub run_by : (Walk → List ℕ → Stepped) → ℕ → Walk → List (List ℕ) → Ran
run_by step zero w ps = record { entries = []; state = w; ended = cut_short }
run_by step (suc k) w [] = record { entries = []; state = w; ended = all_used }
run_by step (suc k) w (p ∷ ps) =
    let st = step w p in
    let f = run_by step k st.state (drop st.used p ∷ ps) in
    let m = run_by step k st.state ps in
    follow st.answer st.state f m

module _ (win : List ℕ → Window) where
  -- the frame at offset o: its size, and its answer for its own bytes alone
  abbrev pub entry_at : List ℕ → ℕ → Entry
  entry_at s o = record { at = o; size = frame_size (drop o s); what = frame_of win (take (frame_size (drop o s)) (drop o s)) }

  -- from offset o on, at most k frames
  unfoldable pub walk_at : ℕ → List ℕ → ℕ → Walked
  walk_at zero s o = tail_at s o
  walk_at (suc k) s o =
      let rest = walk_at k s (o + frame_size (drop o s)) in
      cond (ltb (length (drop o s)) (frame_size (drop o s))) (tail_at s o) (after (entry_at s o) rest)

  -- a frame has 2 bytes or more, so there are no more frames than bytes
  abbrev pub walk_of : List ℕ → Walked
  walk_of s = walk_at (length s) s 0

  abbrev pub run : ℕ → Walk → List (List ℕ) → Ran
  run k w ps = run_by (step_of win) k w ps

  -- a frame of no bytes: what stands past the last one
  abbrev pub nothing : Entry
  nothing = record { at = 0; size = 0; what = frame_of win [] }

  -- as many steps as there are pieces and bytes, and one
  abbrev pub run_of : Reading → List (List ℕ) → Ran
  run_of rd ps = run (suc (length ps + length (joined ps))) (fresh_of rd) ps
