-- What is promised of the walk, over any window's answer `win`: demand 3 as one record; which states steps reach; and 30 in the scope's words.
-- Assumes nothing.
use Rattle.std.specs.Prelude.{ℕ, ◌+◌, ◌*◌, ◌≤◌, ◌<◌, ◌≡◌, List, [], ◌∷◌, ◌⊎◌, length, get_or, take, drop}
use Rattle.format.specs.declared.Reading.{Reading}
use Rattle.reader.specs.Window.{Window}
use Rattle.walk.specs.declared.Walk.{Walk}
use Rattle.walk.specs.Walk.{frame_size, frame_of, fresh_of, step_of}
use Rattle.walk.specs.Frames.{Entry, all_used, sizes, accepts, joined, walk_of, run_of, nothing}

-- ---- overwriting

-- place i is in the body of one of the frames: past its two length bytes
abbrev pub Inside : List Entry → ℕ → Type 0
Inside [] i = ⊥
Inside (e ∷ es) i = ((e.at + 2 ≤ i) × (i < e.at + e.size)) ⊎ Inside es i

module _ (win : List ℕ → Window) where
  -- t is s with bytes of the bodies of complete frames overwritten at will
  pub record Overwritten (s t : List ℕ) : Type 0 where
    pub long : length t ≡ length s
    pub kept : (i : ℕ) → (Inside (walk_of win s).entries i → ⊥) → get_or t i 0 ≡ get_or s i 0

  -- ---- demand 3, by one reading: a recording cut into the pieces ps, and the recording so overwritten cut into the pieces qs

  module _ (rd : Reading) (ps qs : List (List ℕ)) where
    -- the frame of number j that the steps over ps, and over qs, answer
    abbrev pub old : ℕ → Entry
    old j = get_or (run_of win rd ps).entries j (nothing win)

    abbrev pub new : ℕ → Entry
    new j = get_or (run_of win rd qs).entries j (nothing win)

    pub record Demand3 : Type 0 where
      -- no step refuses, and all input is used
      pub used : (run_of win rd qs).ended ≡ all_used
      -- one answer for each frame of the recording, in order, wherever it is cut; and no whole frame is in the tail
      pub frames : (run_of win rd qs).entries ≡ (walk_of win (joined qs)).entries
      pub short : (run_of win rd qs).state.seen < frame_size (drop (run_of win rd qs).state.offset (joined qs))
      -- the overwriting changed neither the number of frames, nor the offset and size of any, nor those of the tail
      pub as_many : length (run_of win rd qs).entries ≡ length (run_of win rd ps).entries
      pub placed : (j : ℕ) → ((new j).at ≡ (old j).at) × ((new j).size ≡ (old j).size)
      pub tail : ((run_of win rd qs).state.offset ≡ (run_of win rd ps).state.offset) × ((run_of win rd qs).state.seen ≡ (run_of win rd ps).state.seen)
      -- a frame's answer is that of the frame rule for the bytes that it has now, alone
      pub answered : (j : ℕ) → (new j).what ≡ frame_of win (take (old j).size (drop (old j).at (joined qs)))
      -- a frame none of whose bytes changed has its old answer at its old offset
      pub other : (j : ℕ) → ((i : ℕ) → (old j).at ≤ i → i < (old j).at + (old j).size → get_or (joined qs) i 0 ≡ get_or (joined ps) i 0)
          → new j ≡ old j
      -- the frames' sizes and the tail are the bytes read
      pub sum : sizes (run_of win rd qs).entries + (run_of win rd qs).state.seen ≡ length (joined qs)
      -- the counts are the numbers of frames and of accepted ones
      pub counts : ((run_of win rd qs).state.frames ≡ length (run_of win rd qs).entries)
          × ((run_of win rd qs).state.accepted ≡ accepts (run_of win rd qs).entries)

  -- ---- the states that steps reach from the fresh one, whatever the pieces

  pub data Reached (rd : Reading) : Walk → Type 0 where
    start : Reached rd (fresh_of rd)
    next : {w : Walk} (p : List ℕ) → Reached rd w → Reached rd (step_of win w p).state

-- ---- 30: seen is 2 or more and not below 2 + L; a held byte past seen is not zero; twice frames above offset; accepted above frames

pub data Thirty (w : Walk) : Type 0 where
  past : 2 ≤ w.seen → frame_size w.held ≤ w.seen → Thirty w
  unclean : (i : ℕ) → w.seen ≤ i → i < length w.held → (get_or w.held i 0 ≡ 0 → ⊥) → Thirty w
  crowded : w.offset < 2 * w.frames → Thirty w
  miscounted : w.frames < w.accepted → Thirty w
