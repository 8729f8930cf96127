-- A step from a state that holds q, the bytes so far of the current frame: what it does, by the bytes q ++ p.
-- Of the window's answer it uses the two laws alone: appended bytes change nothing, and 52 bytes are never incomplete.
-- Assumes nothing.
use Prim.Native.Nat.{ℕ, zero, suc, ◌≤◌, ◌<◌, ◌-◌, ◌+◌, ◌*◌, ◌^◌, min}
use mathlib.Core.Path.{◌≡◌, refl, ap, sym, ◌∙◌}
use mathlib.Core.Bool.{Bool, true, false}
use mathlib.Core.List.{List, [], ◌∷◌, ◌++◌}
use native.Mathlib.Omega.{arith}
use borrow.Author.Tests.{lt-ltb, leb-true, leb-false}
use lib.ListN.{length, take, drop, get_or, length-append, take-append-drop}
use lib.Seq.{length-take-le, take-take}
use lib.Dec.{leb}
use Rattle.reader.specs.Window.{Window}
use Rattle.walk.specs.declared.Walk.{Walk}
use Rattle.walk.specs.Walk.{put, zeros, zero_from, frame_size, frame_of, judge_of, past_of, more_of, done_of, moved_of, sound_of, step_of, Lawful, Verdict}
use Rattle.walk.specs.Frames.{pad}
use Rattle.walk.proofs.Cases.{moved_more, moved-done, sound-rest, step-moves, count-one}

-- ---- pad

pub pad-at : (n : ℕ) (s : List ℕ) (i : ℕ) → i < n → get_or (pad n s) i 0 ≡ get_or s i 0
unfolding pad
pad-at zero s i h = absurd (omega arith)
pad-at (suc n) [] zero h = refl
pad-at (suc n) [] (suc i) h = pad-at n [] i (omega arith)
pad-at (suc n) (x ∷ s) zero h = refl
pad-at (suc n) (x ∷ s) (suc i) h = pad-at n s i (omega arith)

pub size-pad : (s : List ℕ) → frame_size (pad 52 s) ≡ frame_size s
size-pad s = omega (arith, pad-at 52 s 0 (omega arith), pad-at 52 s 1 (omega arith))

put-zeros : (n : ℕ) (p : List ℕ) → put (pad n []) 0 p ≡ pad n p
unfolding pad put
put-zeros zero p = refl
put-zeros (suc n) [] = refl
put-zeros (suc n) (x ∷ p) = ap (λ (l : List ℕ). x ∷ l) (put-zeros n p)

-- the piece put behind what is held is what is held of both
pub put-pad : (n : ℕ) (q p : List ℕ) → put (pad n q) (length q) p ≡ pad n (q ++ p)
unfolding pad put
put-pad zero q p = refl
put-pad (suc n) [] p = put-zeros (suc n) p
put-pad (suc n) (x ∷ q) p = ap (λ (l : List ℕ). x ∷ l) (put-pad n q p)

zeros-pad : (n : ℕ) → zeros (pad n []) ≡ true
unfolding pad zeros
zeros-pad zero = refl
zeros-pad (suc n) = zeros-pad n

pub zero-pad : (n : ℕ) (q : List ℕ) → zero_from (pad n q) (length q) ≡ true
unfolding pad zeros
zero-pad zero [] = refl
zero-pad zero (x ∷ q) = refl
zero-pad (suc n) [] = zeros-pad n
zero-pad (suc n) (x ∷ q) = zero-pad n q

pub take-pad : (m n : ℕ) (s : List ℕ) → m ≤ n → m ≤ length s → take m (pad n s) ≡ take m s
unfolding pad
take-pad zero n s a b = refl
take-pad (suc m) zero s a b = absurd (omega arith)
take-pad (suc m) (suc n) [] a b = absurd (omega arith)
take-pad (suc m) (suc n) (x ∷ s) a b = ap (λ (l : List ℕ). x ∷ l) (take-pad m n s (omega arith) (omega arith))

-- ---- the states

-- w stands at a frame of which it has seen q
pub record Holds (w : Walk) (q : List ℕ) : Type 0 where
  pub seen : w.seen ≡ length q
  pub held : w.held ≡ pad 52 q
  pub short : length q < frame_size q
  pub two : 2 * w.frames ≤ w.offset
  pub counted : w.accepted ≤ w.frames

module _ (win : List ℕ → Window) (laws : Lawful win) where
  -- ---- the frame rule by the first 52 bytes

  first-52 : (f : List ℕ) → 52 ≤ length f → win (take 52 f) ≡ win f
  first-52 f h =
      sym (laws.appended (take 52 f) (drop 52 f) (laws.full (take 52 f) (omega (arith, length-take-le 52 f h))))
      ∙ ap win (take-append-drop 52 f)

  pub judge-frame : (x : List ℕ) (n : ℕ) → n ≤ length x → judge_of win (pad 52 x) n ≡ frame_of win (take n x)
  unfolding judge_of frame_of
  judge-frame x n h = go (leb n 52) refl
    where
      go : (b : Bool) → leb n 52 ≡ b → judge_of win (pad 52 x) n ≡ frame_of win (take n x)
      go true e =
          let le : n ≤ 52 = leb-true n 52 e in
          let m : min n 52 ≡ n = omega arith in
          rw (m, take-pad n 52 x le h, length-take-le n x h)
      go false e =
          let lt : 52 < n = leb-false n 52 e in
          let m : min n 52 ≡ 52 = omega arith in
          let l : length (take n x) ≡ n = length-take-le n x h in
          rw (m, take-pad 52 52 x (omega arith) (omega arith), l, ← first-52 (take n x) (omega arith), take-take 52 n x (omega arith))

  module _ (w : Walk) (q : List ℕ) (H : Holds w q) where
    -- such a state is never refused as bad
    pub holds-sound : sound_of w ≡ true
    holds-sound =
        sound-rest w (omega (arith, H.seen, H.short, ap frame_size H.held, size-pad q)) H.two H.counted
        ∙ rw (H.held, H.seen) (zero-pad 52 q)

    put-held : (p : List ℕ) → put w.held w.seen p ≡ pad 52 (q ++ p)
    put-held p = rw (H.held, H.seen) (put-pad 52 q p)

    moves : (p : List ℕ) → w.offset + length (q ++ p) < 2 ^ 64 → step_of win w p ≡ moved_of win w p
    moves p r =
        step-moves win w p holds-sound
        (lt-ltb (w.offset + w.seen + length p) (2 ^ 64) (omega (arith, H.seen, length-append q p)))

    -- the size that the step finds
    size-held : (p : List ℕ) → frame_size (q ++ p) ≡ frame_size (put w.held w.seen p)
    size-held p = sym (ap frame_size (put-held p) ∙ size-pad (q ++ p))

    pub step-more : (p : List ℕ) → w.offset + length (q ++ p) < 2 ^ 64 → length (q ++ p) < frame_size (q ++ p)
        → step_of win w p ≡ more_of w (pad 52 (q ++ p)) (length p)
    step-more p r lt =
        moves p r
        ∙ sym (moved_more win w p (pad 52 (q ++ p)) (frame_size (q ++ p)) (sym (put-held p)) (size-held p) (omega (arith, H.seen, length-append q p)))

    pub step-done : (p : List ℕ) → w.offset + length (q ++ p) < 2 ^ 64 → frame_size (q ++ p) ≤ length (q ++ p)
        → step_of win w p ≡ done_of w (frame_size (q ++ p) - length q) (frame_size (q ++ p)) (frame_of win (take (frame_size (q ++ p)) (q ++ p)))
    step-done p r le =
        let n : ℕ = frame_size (q ++ p) in
        let v : Verdict = frame_of win (take n (q ++ p)) in
        moves p r
        ∙ sym (moved-done win w p n v (done_of w (n - length q) n v) (size-held p) (omega (arith, H.seen, length-append q p))
        (sym (ap (λ (h : List ℕ). judge_of win h n) (put-held p) ∙ judge-frame (q ++ p) n le))
        (ap (λ (k : ℕ). done_of w (n - k) n v) (sym H.seen)))

    pub holds_more : (p : List ℕ) → length (q ++ p) < frame_size (q ++ p) → Holds (more_of w (pad 52 (q ++ p)) (length p)).state (q ++ p)
    holds_more p lt =
        record { seen = omega (arith, H.seen, length-append q p); held = refl; short = lt; two = H.two; counted = H.counted }

    pub holds-past : (size : ℕ) (v : Verdict) → 2 ≤ size → Holds (past_of w size v) []
    unfolding pad
    holds-past size v h =
        record { seen = refl; held = refl; short = omega arith; two = omega (arith, H.two); counted = omega (arith, H.counted, count-one v) }
