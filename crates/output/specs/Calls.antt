-- A program's calls of `walk_block`, by their contract: blocks of the input, each walked by calls until it is used up; what a call put at the
-- front of the buffer is written. All calls are quiet, or none is.
-- Assumes nothing.
use Rattle.std.specs.Prelude.{ℕ, ◌≤◌, Bool, List, [], ◌∷◌, ◌++◌, length, take, drop}
use Rattle.reader.specs.Window.{Window}
use Rattle.walk.specs.declared.Walk.{Walk}
use Rattle.lines.specs.declared.Blocked.{Blocked}
use Rattle.lines.specs.Blocks.{Called}

-- from w over the pieces ps to w', with the texts ts written
pub data Calls (quiet : Bool) (win : List ℕ → Window) : Walk → List (List ℕ) → List (List ℕ) → Walk → Type 0 where
  -- the input ends
  over : {w : Walk} → Calls quiet win w [] [] w
  -- a block is used up
  next : {w w' : Walk} {ps ts : List (List ℕ)} (b : List ℕ) (i : ℕ) → length b ≤ i → Calls quiet win w ps ts w' → Calls quiet win w (drop i b ∷ ps) ts w'
  -- a call from place i of the block b on leaves the buffer `after` and answers r
  call : {w w' : Walk} {ps ts : List (List ℕ)} (b : List ℕ) (i : ℕ) (out after : List ℕ) (r : Blocked) → Called quiet win w b i out 0 after r
      → Calls quiet win r.state (drop r.from b ∷ ps) ts w' → Calls quiet win w (drop i b ∷ ps) (take r.at after ∷ ts) w'

-- the calls behind w over the block b from place i on, and what follows: they are the rest of those behind w₀ over b from place i₀ on, and the
-- texts ts were written between
pub record Since (quiet : Bool) (win : List ℕ → Window) (w₀ : Walk) (b : List ℕ) (i₀ : ℕ) (w : Walk) (i : ℕ) : Type 0 where
  pub texts : List (List ℕ)
  pub rest : {ps ts : List (List ℕ)} {w' : Walk} → Calls quiet win w (drop i b ∷ ps) ts w' → Calls quiet win w₀ (drop i₀ b ∷ ps) (texts ++ ts) w'

-- the same of whole blocks: the pieces ps lie between w₀ and w
pub record Over (quiet : Bool) (win : List ℕ → Window) (ps : List (List ℕ)) (w₀ w : Walk) : Type 0 where
  pub texts : List (List ℕ)
  pub rest : {qs ts : List (List ℕ)} {w' : Walk} → Calls quiet win w qs ts w' → Calls quiet win w₀ (ps ++ qs) (texts ++ ts) w'
