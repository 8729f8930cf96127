-- A call of `walk_block` is a part of the run of steps over the pieces.
-- Assumes nothing.
use Prim.Native.Nat.{ℕ, zero, suc, ◌≤◌, ◌<◌, ◌-◌, ◌+◌, ◌^◌}
use mathlib.Core.Path.{◌≡◌, refl, ap, sym, ◌∙◌}
use mathlib.Core.Bool.{Bool}
use mathlib.Core.List.{List, [], ◌∷◌, ◌++◌, append-nil}
use mathlib.Core.Logic.{⊎_elim}
use native.Mathlib.Omega.{arith}
use native.Mathlib.Nat.{zero-add}
use lib.ListN.{length, take, drop, length-append, length-drop, drop_of_length-le}
use lib.Seq.{drop-drop}
use Rattle.format.proofs.Tests.{le-or-lt}
use Rattle.reader.specs.Window.{Window}
use Rattle.walk.specs.declared.Walk.{Walk}
use Rattle.walk.specs.Walk.{frame_size, frame_of, past_of, more_of, done_of, step_of, Lawful}
use Rattle.walk.specs.Frames.{Entry, Ran, told, run_by, run, pad}
use Rattle.demand.proofs.Steps.{Holds, step-more, step-done, holds_more, holds-past}
use Rattle.demand.proofs.Walks.{short-append}
use Rattle.demand.proofs.Empty.{empty-piece}
use Rattle.lines.specs.declared.Why.{Why}
use Rattle.lines.specs.declared.Why.TheVariants.{Used, Full}
use Rattle.lines.specs.Lines.{line_of}
use Rattle.lines.specs.Blocks.{longest, Block, stopped, telling, block_of}
use Rattle.lines.proofs.Turns.{turn, block-used, block-full, block-step}

-- some frames told of, and then the run r
abbrev pub tells : List Entry → Ran → Ran
tells es r = record { entries = es ++ r.entries; state = r.state; ended = r.ended }

module _ (win : List ℕ → Window) (laws : Lawful win) where
  -- an empty piece is passed over
  pub run-skip : (j : ℕ) (w : Walk) (q : List ℕ) (ps : List (List ℕ)) → Holds w q → w.offset + length q < 2 ^ 64
      → run win (suc j) w ([] ∷ ps) ≡ run win j w ps
  unfolding run_by
  run-skip j w q ps H r =
      let n : q ++ [] ≡ q = append-nil q in
      let e = step-more win laws w q H [] (rw n r) (rw n H.short) in
      let s : (more_of w (pad 52 (q ++ [])) 0).state ≡ w = rw e at (empty-piece win w).0 in
      rw e (ap (λ (x : Walk). run win j x ps) s)

  -- the call r from place i of the block on: as a part of a run, whatever follows
  pub record Ahead (w : Walk) (q b : List ℕ) (i : ℕ) (r : Block) : Type 0 where
    pub steps : ℕ
    pub runs : (j : ℕ) (ps : List (List ℕ)) → run win (steps + suc j) w (drop i b ∷ ps) ≡ tells r.entries (run win (suc j) r.state (drop r.from b ∷ ps))
    pub seen : List ℕ
    pub holds : Holds r.state seen
    pub bytes : r.state.offset + length seen + length (drop r.from b) ≡ w.offset + length q + length (drop i b)

  ahead-stopped : (w : Walk) (q b : List ℕ) (i : ℕ) (y : Why) → Holds w q → Ahead w q b i (stopped w i y)
  ahead-stopped w q b i y H = record { steps = 0; runs = λ j ps. rw (zero-add (suc j)); seen = q; holds = H; bytes = refl }

  -- one step in front: one that takes all of the block, and one that tells a frame
  ahead_after : (w w' : Walk) (q q' b : List ℕ) (i i' : ℕ) (r : Block) → ((j : ℕ) (ps : List (List ℕ)) → run win (suc j) w (drop i b ∷ ps) ≡ run win j w' ps)
      → Holds w' q' → w'.offset + length q' < 2 ^ 64 → drop i' b ≡ [] → w'.offset + length q' ≡ w.offset + length q + length (drop i b)
      → Ahead w' q' b i' r → Ahead w q b i r
  ahead_after w w' q q' b i i' r e H t d z A =
      record {
        steps = A.steps;
        runs = λ j ps.
            let s : A.steps + suc j ≡ suc (A.steps + j) = omega arith in
            rw s (e (A.steps + j) ps ∙ sym (run-skip (A.steps + j) w' q' ps H t) ∙ rw (s, d) at (A.runs j ps));
        seen = A.seen;
        holds = A.holds;
        bytes = omega (arith, A.bytes, ap length d);
      }

  ahead-telling : (w w' : Walk) (q b : List ℕ) (i i' : ℕ) (en : Entry) (r : Block)
      → ((j : ℕ) (ps : List (List ℕ)) → run win (suc j) w (drop i b ∷ ps) ≡ told en (run win j w' (drop i' b ∷ ps)))
      → w'.offset + 0 + length (drop i' b) ≡ w.offset + length q + length (drop i b) → Ahead w' [] b i' r → Ahead w q b i (telling en r)
  ahead-telling w w' q b i i' en r e z A =
      record {
        steps = suc A.steps;
        runs = λ j ps.
            let s : suc A.steps + suc j ≡ suc (A.steps + suc j) = omega arith in
            rw s (e (A.steps + suc j) ps ∙ ap (told en) (A.runs j ps));
        seen = A.seen;
        holds = A.holds;
        bytes = A.bytes ∙ z;
      }

  module _ (quiet : Bool) where
    abbrev AheadAt : ℕ → Type 0
    AheadAt k =
        (room : ℕ) (w : Walk) (q b : List ℕ) (i : ℕ) → Holds w q → w.offset + length q + length (drop i b) < 2 ^ 64
        → Ahead w q b i (block_of quiet win k room w b i)

    module _ (k : ℕ) (IH : AheadAt k) (room : ℕ) (w : Walk) (q b : List ℕ) (i : ℕ) (H : Holds w q)
        (t : w.offset + length q + length (drop i b) < 2 ^ 64) (h : i < length b) (g : longest ≤ room) where
      fits : w.offset + length (q ++ drop i b) < 2 ^ 64
      fits = omega (arith, length-append q (drop i b))

      ahead_more : length (q ++ drop i b) < frame_size (q ++ drop i b) → Ahead w q b i (block_of quiet win (suc k) room w b i)
      unfolding run_by
      ahead_more lt =
          let p = drop i b in
          let st = more_of w (pad 52 (q ++ p)) (length p) in
          let e : step_of win w p ≡ st = step-more win laws w q H p fits lt in
          let H' : Holds st.state (q ++ p) = holds_more win laws w q H p lt in
          let d : drop (i + length p) b ≡ [] = drop_of_length-le b {i = i + length p} (omega (arith, length-drop i b)) in
          rw (block-step quiet win k room w b i st h g e)
          (ahead_after w st.state q (q ++ p) b i (i + length p) (block_of quiet win k room st.state b (i + length p)) (λ j ps. rw e) H' fits d
          (omega (arith, length-append q p))
          (IH room st.state (q ++ p) b (i + length p) H' (omega (arith, fits, ap length d))))

      -- the frame's size, its bytes in the block from i on, and its answer
      ahead-done : frame_size (q ++ drop i b) ≤ length (q ++ drop i b) → Ahead w q b i (block_of quiet win (suc k) room w b i)
      unfolding run_by done_of
      ahead-done le =
          let p = drop i b in
          let n = frame_size (q ++ p) in
          let u = n - length q in
          let v = frame_of win (take n (q ++ p)) in
          let en : Entry = record { at = w.offset; size = n; what = v } in
          let st = done_of w u n v in
          let e : step_of win w p ≡ st = step-done win laws w q H p fits le in
          let lt : length q < n = short-append q p H.short in
          let d : drop u p ≡ drop (i + u) b = drop-drop u i b in
          let z : length (drop (i + u) b) ≡ length p - u = ap length (sym d) ∙ length-drop u p in
          let y : w.offset + n + 0 + length (drop (i + u) b) ≡ w.offset + length q + length p = omega (arith, length-append q p) in
          rw (block-step quiet win k room w b i st h g e)
          (ahead-telling w (past_of w n v) q b i (i + u) en (block_of quiet win k (room - length (line_of quiet en)) (past_of w n v) b (i + u)) (λ j ps. rw (e, d)) y
          (IH (room - length (line_of quiet en)) (past_of w n v) [] b (i + u) (holds-past win laws w q H n v (omega arith)) (omega arith)))

      ahead_step : Ahead w q b i (block_of quiet win (suc k) room w b i)
      ahead_step = ⊎_elim ahead-done ahead_more (le-or-lt (frame_size (q ++ drop i b)) (length (q ++ drop i b)))

    pub ahead : (k : ℕ) → AheadAt k
    unfolding block_of
    ahead zero room w q b i H t = ahead-stopped w q b i Used H
    ahead (suc k) room w q b i H t =
        turn b i room
        (λ h. rw (block-used quiet win (suc k) room w b i h) (ahead-stopped w q b i Used H))
        (λ h r. rw (block-full quiet win k room w b i h r) (ahead-stopped w q b i Full H))
        (λ h r. ahead_step k (ahead k) room w q b i H t h r)
