-- The loop over the frames that end in a block, over plain values: what is left to do, done to what is there, is the whole call.
-- Assumes nothing.
use Prim.Native.Nat.{ℕ, suc, ◌≤◌, ◌<◌, ◌-◌, ◌+◌, ◌*◌, ◌^◌}
use mathlib.Core.Path.{◌≡◌, refl}
use mathlib.Core.Bool.{Bool}
use mathlib.Core.List.{List, [], ◌∷◌, ◌++◌}
use mathlib.Core.Logic.{⊎_elim}
use native.Mathlib.Omega.{arith}
use native.Mathlib.Nat.{add-zero}
use lib.ListN.{length, drop, get_or, replicate, length-drop, drop_of_length-le}
use lib.Seq.{sets, drop-cons}
use Rattle.format.specs.declared.Reading.{Reading}
use Rattle.format.proofs.Tests.{le-or-lt}
use Rattle.reader.specs.Window.{Window}
use Rattle.walk.specs.declared.Walk.{Walk}
use Rattle.walk.specs.Walk.{size_by, frame_size, count_of, judge_of, put, done_of}
use Rattle.walk.proofs.Cases.{count-one}
use Rattle.walk.specs.Frames.{Entry, accepts}
use Rattle.text.specs.Decimal.{Wrote}
use Rattle.text.proofs.Laws.{wrote-long, wrote-split}
use Rattle.lines.specs.declared.Gone.{Gone}
use Rattle.lines.specs.declared.Why.TheVariants.{Used, Full}
use Rattle.lines.specs.Lines.{line_of, lines_of}
use Rattle.lines.specs.Blocks.{longest, start_of, paused_of, Called}
use Rattle.lines.specs.Whole.{Cutting, entry_at, Ends, Frames, none, more, Goes}
use Rattle.lines.proofs.Turns.{Going, going_start, going-used, going-full, going-frame, going-cut}
use Rattle.lines.proofs.Told.{lines-last, accepts_last, many-last, frames-far}
use Rattle.lines.proofs.Starts.{start-frame, start-cut, start-short}

-- the size that two bytes give is that of the frame which they begin
pub size-here : (b : List ℕ) (i size : ℕ) → i + 2 ≤ length b → size ≡ size_by (get_or b i 0) (get_or b (i + 1) 0) → size ≡ frame_size (drop i b)
size-here b i size h z =
    let s : i + 1 ≡ suc i = omega arith in
    rw (drop-cons b i 0 (omega arith), drop-cons b (suc i) 0 (omega arith), ← s) z

module _ (quiet : Bool) (win : List ℕ → Window) (rd : Reading) where
  pub record Along (b : List ℕ) (from : ℕ) (out₀ : List ℕ) (at : ℕ) (w₀ : Walk) (out : List ℕ) (i o offset frames accepted : ℕ) : Type 0 where
    pub going : Going quiet win b from out₀ at w₀ out (start_of offset frames accepted rd) i o
    pub room : offset + (length b - i) < 2 ^ 64
    pub two : 2 * frames ≤ offset
    pub counted : accepted ≤ frames

  module _ (b : List ℕ) (from : ℕ) (out₀ : List ℕ) (at : ℕ) (w₀ : Walk) (out : List ℕ) (i o offset frames accepted : ℕ)
      (A : Along b from out₀ at w₀ out i o offset frames accepted) where
    along-used : length b ≤ i → Called quiet win w₀ b from out₀ at out (record { state = start_of offset frames accepted rd; from = i; at = o; why = Used })
    along-used h = going-used quiet win b from out₀ at w₀ out (start_of offset frames accepted rd) i o A.going h

    pub along-full : i < length b → length out - o < longest
        → Called quiet win w₀ b from out₀ at out (record { state = start_of offset frames accepted rd; from = i; at = o; why = Full })
    along-full h r = going-full quiet win b from out₀ at w₀ out (start_of offset frames accepted rd) i o A.going h r

    fits : i < length b → offset + length (drop i b) < 2 ^ 64
    fits h = omega (arith, A.room, length-drop i b)

    along-cut : i < length b → longest ≤ length out - o → length (drop i b) < frame_size (put (replicate 52 0) 0 (drop i b))
        → Called quiet win w₀ b from out₀ at out (record { state = paused_of (start_of offset frames accepted rd) (drop i b); from = i + (length b - i); at = o; why = Used })
    along-cut h r lt =
        rw (← length-drop i b)
        (going-cut quiet win b from out₀ at w₀ out (start_of offset frames accepted rd) i o A.going h r
        (start-cut win rd offset frames accepted (drop i b) (fits h) A.two A.counted lt))

    module _ (size : ℕ) (h : i < length b) (r : longest ≤ length out - o) (two : 2 ≤ length b - i) (z : size ≡ frame_size (drop i b)) where
      along-line : size ≤ length b - i → (out' : List ℕ) (o' : ℕ)
          → Wrote (line_of quiet (record { at = offset; size = size; what = judge_of win (drop i b) size })) out o out' o'
          → Along b from out₀ at w₀ out' (i + size) o' (offset + size) (frames + 1) (accepted + count_of (judge_of win (drop i b) size))
      along-line le out' o' p =
          let v = judge_of win (drop i b) size in
          let d = length-drop i b in
          record {
            going = going-frame quiet win b from out₀ at w₀ out (start_of offset frames accepted rd) i o A.going
                (done_of (start_of offset frames accepted rd) size size v) h r
                (start-frame win rd offset frames accepted (drop i b) (fits h) A.two A.counted size (omega arith) z (omega arith))
                size size v refl out' o' p;
            room = omega (arith, A.room);
            two = omega (arith, A.two, z);
            counted = omega (arith, A.counted, count-one v);
          }

    -- no byte of the block is left
    along-none : length b ≤ i
        → Called quiet win w₀ b from out₀ at out (record { state = paused_of (start_of offset frames accepted rd) (drop i b); from = i + (length b - i); at = o; why = Used })
    unfolding put
    along-none l =
        let e : drop i b ≡ [] = drop_of_length-le b l in
        let n : i + (length b - i) ≡ i = omega arith in
        rw (e, n) (along-used l)

    -- no further frame ends in the block: none begins there, too few bytes for a length, or fewer than it says
    pub along-end : i ≤ length b → Cutting b (length b) i → (i < length b → longest ≤ length out - o)
        → Called quiet win w₀ b from out₀ at out (record { state = paused_of (start_of offset frames accepted rd) (drop i b); from = i + (length b - i); at = o; why = Used })
    unfolding put
    along-end w c space =
        ⊎_elim
        along-none
        (λ d.
        ⊎_elim
        along-none
        (λ lt.
        along-cut lt (space lt)
        (⊎_elim
        (λ few. omega (arith, few, length-drop i b))
        (λ short.
        ⊎_elim
        (λ two.
        start-short win rd offset frames accepted (drop i b) (fits lt) A.two A.counted (omega (arith, two, length-drop i b)) (omega (arith, short, length-drop i b)))
        (λ few. omega (arith, few, length-drop i b))
        (le-or-lt 2 (length b - i)))
        d))
        (le-or-lt (length b) i))
        c

  pub along-start : (b : List ℕ) (from : ℕ) (out : List ℕ) (at offset frames accepted : ℕ) → from ≤ length b → at ≤ length out
      → offset + (length b - from) < 2 ^ 64 → 2 * frames ≤ offset → accepted ≤ frames
      → Along b from out at (start_of offset frames accepted rd) out from at offset frames accepted
  along-start b from out at offset frames accepted h g r t c =
      record { going = going_start quiet win b from out at (start_of offset frames accepted rd) h g; room = r; two = t; counted = c }

  -- one frame behind others
  along-next : (b : List ℕ) (from : ℕ) (out₀ : List ℕ) (at : ℕ) (w₀ : Walk) (out : List ℕ) (i o offset frames accepted : ℕ) (es : List Entry) (j : ℕ)
      → i + 2 * length es ≤ j → Ends b (length b) j → o + length (lines_of quiet es) + longest ≤ length out → (out' : List ℕ) (o' : ℕ)
      → Wrote (lines_of quiet es ++ line_of quiet (entry_at win b i offset j)) out o out' o'
      → Along b from out₀ at w₀ (sets out o (lines_of quiet es)) j (o + length (lines_of quiet es)) (offset + (j - i)) (frames + length es) (accepted + accepts es)
      → Along b from out₀ at w₀ out' (j + frame_size (drop j b)) o' (offset + (j + frame_size (drop j b) - i)) (frames + length (es ++ (entry_at win b i offset j ∷ [])))
      (accepted + accepts (es ++ (entry_at win b i offset j ∷ [])))
  along-next b from out₀ at w₀ out i o offset frames accepted es j f E r out' o' p B =
      let en = entry_at win b i offset j in
      let q = wrote-split {t = lines_of quiet es} {u = line_of quiet en} p in
      let n = wrote-long q.0 in
      let size = frame_size (drop j b) in
      let C = along-line b from out₀ at w₀ (sets out o (lines_of quiet es)) j (o + length (lines_of quiet es)) (offset + (j - i)) (frames + length es) (accepted + accepts es) B size
      E.before (omega (arith, r, n)) (omega (arith, E.sized)) refl E.whole out' o' q.1 in
      let x : offset + (j - i) + size ≡ offset + (j + size - i) = omega (arith, f) in
      let y : frames + length es + 1 ≡ frames + length (es ++ (en ∷ [])) = omega (arith, many-last es en) in
      let z : accepted + accepts es + count_of (judge_of win (drop j b) size) ≡ accepted + accepts (es ++ (en ∷ [])) = omega (arith, accepts_last es en) in
      rw (x, y, z) at C

  -- frames told one behind the other
  pub along-frames : (b : List ℕ) (from : ℕ) (out₀ : List ℕ) (at : ℕ) (w₀ : Walk) (out : List ℕ) (i o offset frames accepted : ℕ)
      → Along b from out₀ at w₀ out i o offset frames accepted → i ≤ length b → {es : List Entry} {j : ℕ} → Frames quiet win b (length b) i offset (length out) o es j
      → (out' : List ℕ) (o' : ℕ) → Wrote (lines_of quiet es) out o out' o'
      → Along b from out₀ at w₀ out' j o' (offset + (j - i)) (frames + length es) (accepted + accepts es)
  unfolding lines_of accepts
  along-frames b from out₀ at w₀ out i o offset frames accepted A h none out' o' p =
      let x : out' ≡ out = p.bytes in
      let y : o' ≡ o = omega (arith, p.next) in
      let u : offset + (i - i) ≡ offset = omega arith in
      rw (x, y, u, add-zero frames, add-zero accepted) A
  along-frames b from out₀ at w₀ out i o offset frames accepted A h (more {es} {j} F E r) out' o' p =
      let q = rw (lines-last quiet es (entry_at win b i offset j)) at p in
      along-next b from out₀ at w₀ out i o offset frames accepted es j (frames-far quiet win b (length b) h F).0 E r out' o' q
      (along-frames b from out₀ at w₀ out i o offset frames accepted A h F (sets out o (lines_of quiet es)) (o + length (lines_of quiet es)) (wrote-split {t = lines_of quiet es} {u = line_of quiet (entry_at win b i offset j)} q).0)

  -- all frames of a block
  pub gone-along : (b : List ℕ) (from : ℕ) (out : List ℕ) (at offset frames accepted : ℕ) → from ≤ length b → at ≤ length out
      → offset + (length b - from) < 2 ^ 64 → 2 * frames ≤ offset → accepted ≤ frames → (after : List ℕ) (g : Gone)
      → Goes quiet win b (length b) from offset frames accepted out at after g
      → Along b from out at (start_of offset frames accepted rd) after g.at g.to g.counts.offset g.counts.frames g.counts.accepted
  gone-along b from out at offset frames accepted h k r t c after g G =
      rw (G.past, G.told, G.good)
      (along-frames b from out at (start_of offset frames accepted rd) out from at offset frames accepted
      (along-start b from out at offset frames accepted h k r t c) h G.run after g.to G.text)
