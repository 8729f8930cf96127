-- Steps from a frame's first byte, by the bytes of the piece alone; and what 30 and 33, asked once for a block, say of its first step.
-- Assumes nothing.
use Prim.Native.Nat.{ℕ, ◌≤◌, ◌<◌, ◌-◌, ◌+◌, ◌*◌, ◌^◌, min}
use mathlib.Core.Path.{◌≡◌, refl, sym, ap, ◌∙◌}
use mathlib.Core.Bool.{Bool, true, false, ◌&&◌, false≢true}
use mathlib.Core.List.{List, [], ◌∷◌}
use native.Mathlib.Omega.{arith}
use borrow.Author.Tests.{lt-ltb, eqb-true}
use lib.Dec.{eqb}
use lib.ListN.{length, replicate}
use Rattle.format.specs.declared.Reading.{Reading}
use Rattle.format.proofs.Tests.{and_split}
use Rattle.reader.specs.Window.{Window}
use Rattle.walk.specs.declared.Walk.{Walk}
use Rattle.walk.specs.Walk.{frame_size, zeros, zero_from, sound_of, countable, ready_of, Ready, put, judge_of, done_of, more_of, moved_of, step_of}
use Rattle.walk.proofs.Held.{put-there, put_front}
use Rattle.walk.proofs.Cases.{ready_gives, sound-rest, step-30, step-33, step-moves, moved_more, moved-done}
use Rattle.lines.specs.Blocks.{refuses_of, start_of}

-- ---- what `ready` says

pub ready-sound : (w : Walk) (n : ℕ) → ready_of w n ≡ true → sound_of w ≡ true
ready-sound w n e = (and_split (sound_of w) (countable w.offset w.seen n) e).0

pub ready-room : (w : Walk) (n : ℕ) → ready_of w n ≡ true → countable w.offset w.seen n ≡ true
ready-room w n e = (and_split (sound_of w) (countable w.offset w.seen n) e).1

pub ready-all : (w : Walk) (n : ℕ) → ready_of w n ≡ true → Ready w n
ready-all w n e = ready_gives w n (ready-sound w n e) (ready-room w n e)

-- bytes that are all zero
zeros-all : (h : List ℕ) → zeros h ≡ true → h ≡ replicate (length h) 0
unfolding zeros
zeros-all [] e = refl
zeros-all (x ∷ h) e =
    let p = and_split (eqb x 0) (zeros h) e in
    ap (λ (y : ℕ). y ∷ h) (eqb-true x 0 p.0) ∙ ap (λ (l : List ℕ). 0 ∷ l) (zeros-all h p.1)

-- a sound state that has seen nothing is at a frame's first byte
pub start-of : (w : Walk) (n : ℕ) → length w.held ≡ 52 → ready_of w n ≡ true → w.seen ≡ 0 → start_of w.offset w.frames w.accepted w.reading ≡ w
start-of w n l e s =
    let r = ready-all w n e in
    let z : zero_from w.held w.seen ≡ true = sym (sound-rest w r.started r.two r.counted) ∙ ready-sound w n e in
    let h : w.held ≡ replicate 52 0 = zeros-all w.held (rw s at z) ∙ ap (λ (k : ℕ). replicate k 0) l in
    λ i. record { offset = w.offset; seen = sym s i; held = sym h i; frames = w.frames; accepted = w.accepted; reading = w.reading }

module _ (win : List ℕ → Window) where
  -- where it was not asked well, the first step refuses
  pub ready_refused : (w : Walk) (p : List ℕ) → ready_of w (length p) ≡ false → refuses_of (step_of win w p).answer ≡ true
  ready_refused w p e = go (sound_of w) refl e
    where
      room : (c : Bool) → sound_of w ≡ true → countable w.offset w.seen (length p) ≡ c → (true && c) ≡ false → refuses_of (step_of win w p).answer ≡ true
      room true s r f = absurd (false≢true (sym f))
      room false s r f = rw (← step-33 win w p s r)

      go : (a : Bool) → sound_of w ≡ a → (sound_of w && countable w.offset w.seen (length p)) ≡ false → refuses_of (step_of win w p).answer ≡ true
      go false s f = rw (← step-30 win w p s)
      go true s f = room (countable w.offset w.seen (length p)) s refl (rw s at f)

  pub ready-moves : (w : Walk) (p : List ℕ) → ready_of w (length p) ≡ true → step_of win w p ≡ moved_of win w p
  ready-moves w p e = step-moves win w p (ready-sound w (length p) e) (ready-room w (length p) e)

  -- ---- from a frame's first byte

  module _ (rd : Reading) (offset frames accepted : ℕ) (p : List ℕ) (r : offset + length p < 2 ^ 64) (t : 2 * frames ≤ offset) (c : accepted ≤ frames) where
    start : Walk
    start = start_of offset frames accepted rd

    start-moves : step_of win start p ≡ moved_of win start p
    unfolding start zeros
    start-moves = step-moves win start p (sound-rest start (omega arith) t c) (lt-ltb (offset + 0 + length p) (2 ^ 64) (omega arith))

    put-size : 2 ≤ length p → frame_size (put (replicate 52 0) 0 p) ≡ frame_size p
    put-size h = omega (arith, put-there (replicate 52 0) 0 p 0 0 refl (omega arith) (omega arith), put-there (replicate 52 0) 0 p 1 1 refl (omega arith) (omega arith))

    judge-put : (size : ℕ) → size ≤ length p → judge_of win p size ≡ judge_of win (put (replicate 52 0) 0 p) size
    unfolding judge_of
    judge-put size le = rw (put_front (min size 52) (replicate 52 0) p (omega arith) (omega arith))

    pub start-frame : (size : ℕ) → 2 ≤ length p → size ≡ frame_size p → size ≤ length p
        → step_of win (start_of offset frames accepted rd) p ≡ done_of (start_of offset frames accepted rd) size size (judge_of win p size)
    unfolding start
    start-frame size h z le =
        let s : size - 0 ≡ size = omega arith in
        start-moves
        ∙ sym (moved-done win start p size (judge_of win p size) (done_of start size size (judge_of win p size)) (z ∙ sym (put-size h)) (omega arith)
        (judge-put size le) (rw s))

    -- the bytes end no frame: too few for a length, or fewer than it says
    pub start-cut : length p < frame_size (put (replicate 52 0) 0 p)
        → step_of win (start_of offset frames accepted rd) p ≡ more_of (start_of offset frames accepted rd) (put (replicate 52 0) 0 p) (length p)
    unfolding start
    start-cut lt = start-moves ∙ sym (moved_more win start p (put (replicate 52 0) 0 p) (frame_size (put (replicate 52 0) 0 p)) refl refl (omega arith))

    pub start-short : 2 ≤ length p → length p < frame_size p → length p < frame_size (put (replicate 52 0) 0 p)
    start-short h lt = omega (arith, put-size h)
