-- The texts of the calls, one behind the other, with the closing lines are the text of the walk of the whole input; where quiet, the text that leaves out the
-- lines of accepted frames.
-- Assumes nothing.
use Prim.Native.Nat.{ℕ, suc, ◌<◌, ◌-◌, ◌+◌, ◌^◌}
use mathlib.Core.Path.{◌≡◌, refl, ap, sym, ◌∙◌}
use mathlib.Core.Bool.{Bool}
use mathlib.Core.List.{List, [], ◌∷◌, ◌++◌, append-nil}
use native.Mathlib.Omega.{arith}
use native.Mathlib.Nat.{zero-add}
use lib.ListN.{length, take, drop, length-append, drop_of_length-le}
use Rattle.format.specs.declared.Reading.{Reading}
use Rattle.reader.specs.Window.{window_of, Window}
use Rattle.walk.specs.declared.Walk.{Walk}
use Rattle.walk.specs.Walk.{fresh_of, Lawful}
use Rattle.walk.specs.Frames.{Entry, all_used, Ran, run_by, run, joined, accepts, walk_of, ran_of}
use Rattle.demand.proofs.Steps.{Holds}
use Rattle.demand.proofs.Cut.{cut}
use Rattle.demand.proofs.Demand3.{fresh_holds, lawful}
use Rattle.lines.specs.Lines.{lines_of, closing_of, text_of}
use Rattle.lines.specs.Blocks.{Block, call_of, Called}
use Rattle.lines.specs.declared.Blocked.{Blocked}
use Rattle.lines.proofs.Told.{lines-append}
use Rattle.text.specs.Decimal.{Wrote}
use Rattle.text.proofs.Laws.{wrote-front}
use Rattle.output.specs.Calls.{Calls, over, next, call, Over}
use Rattle.output.proofs.Runs.{tells, run-skip, Ahead, ahead}

module _ (win : List ℕ → Window) (laws : Lawful win) where
  abbrev all : List Entry → Walk → Ran
  all es w = record { entries = es; state = w; ended = all_used }

  -- a run of enough steps is that
  pub record Runs (w : Walk) (ps : List (List ℕ)) (es : List Entry) (w' : Walk) : Type 0 where
    pub steps : ℕ
    pub runs : (j : ℕ) → run win (steps + suc j) w ps ≡ all es w'

  runs-next : (w w' : Walk) (q p : List ℕ) (ps : List (List ℕ)) (es : List Entry) → p ≡ [] → Holds w q → w.offset + length q < 2 ^ 64
      → Runs w ps es w' → Runs w (p ∷ ps) es w'
  runs-next w w' q p ps es d H t R =
      record {
        steps = suc R.steps;
        runs = λ j.
            let s : suc R.steps + suc j ≡ suc (R.steps + suc j) = omega arith in
            rw (s, d) (run-skip win laws (R.steps + suc j) w q ps H t ∙ R.runs j);
      }

  runs_call : (w w₁ w' : Walk) (q b : List ℕ) (i i₁ : ℕ) (ps : List (List ℕ)) (es : List Entry) (r : Block) → Ahead win laws w q b i r
      → w₁ ≡ r.state → i₁ ≡ r.from → Runs w₁ (drop i₁ b ∷ ps) es w' → Runs w (drop i b ∷ ps) (r.entries ++ es) w'
  runs_call w w₁ w' q b i i₁ ps es r A x y R =
      record {
        steps = A.steps + R.steps;
        runs = λ j.
            let s : A.steps + R.steps + suc j ≡ A.steps + suc (R.steps + j) = omega arith in
            let t : R.steps + suc j ≡ suc (R.steps + j) = omega arith in
            rw s (A.runs (R.steps + j) ps ∙ ap (tells r.entries) (rw (t, x, y) at (R.runs j)));
      }

  module _ (quiet : Bool) where
    -- what a call wrote is the lines of the frames that it tells of
    pub call-text : (w : Walk) (b : List ℕ) (i : ℕ) (out after : List ℕ) (r : Blocked) → Called quiet win w b i out 0 after r
        → take r.at after ≡ lines_of quiet (call_of quiet win w b i out 0).entries
    call-text w b i out after r C =
        let e : r.at ≡ 0 + length (lines_of quiet (call_of quiet win w b i out 0).entries) = ap (λ (x : Blocked). x.at) C.end in
        wrote-front (record { bytes = C.text; next = e; inside = C.inside (omega arith) })

    pub record Told (w : Walk) (ps ts : List (List ℕ)) (w' : Walk) : Type 0 where
      pub frames : List Entry
      pub text : joined ts ≡ lines_of quiet frames
      pub run : Runs w ps frames w'

    pub calls-run : {w w' : Walk} {ps ts : List (List ℕ)} → Calls quiet win w ps ts w' → (q : List ℕ) → Holds w q → w.offset + length q + length (joined ps) < 2 ^ 64
        → Told w ps ts w'
    unfolding run_by joined lines_of
    calls-run over q H t = record { frames = []; text = refl; run = record { steps = 0; runs = λ j. rw (zero-add (suc j)) } }
    calls-run {w} (next {w' = w'} {ps = ps} {ts = ts} b i h c) q H t =
        let d : drop i b ≡ [] = drop_of_length-le b {i = i} h in
        let l : w.offset + length q + length (joined ps) < 2 ^ 64 = omega (arith, length-append (drop i b) (joined ps)) in
        let T = calls-run c q H l in
        record { frames = T.frames; text = T.text; run = runs-next w w' q (drop i b) ps T.frames d H (omega arith) T.run }
    calls-run {w} (call {w' = w'} {ps = ps} {ts = ts} b i out after r C c) q H t =
        let l = length-append (drop i b) (joined ps) in
        let B = call_of quiet win w b i out 0 in
        let A = ahead win laws quiet (length b - i) (length out - 0) w q b i H (omega arith) in
        let x : r.state ≡ B.state = ap (λ (x : Blocked). x.state) C.end in
        let y : r.from ≡ B.from = ap (λ (x : Blocked). x.from) C.end in
        let T = calls-run c A.seen (rw x A.holds) (rw (x, y) (omega (arith, A.bytes, length-append (drop B.from b) (joined ps)))) in
        record {
          frames = B.entries ++ T.frames;
          text =
              ap (λ (z : List ℕ). z ++ joined ts) (call-text w b i out after r C)
              ∙ ap (λ (z : List ℕ). lines_of quiet B.entries ++ z) T.text
              ∙ sym (lines-append quiet B.entries T.frames);
          run = runs_call w r.state w' q b i r.from ps T.frames B A x y T.run;
        }

    -- the whole output of a program over an input, cut and flushed anywhere: the texts of its calls, quiet or not, and then the closing lines of its last state
    pub printed : {rd : Reading} {w : Walk} {ps ts : List (List ℕ)} → Calls quiet win (fresh_of rd) ps ts w → length (joined ps) < 2 ^ 64
        → joined ts ++ closing_of w.offset w.seen w.frames w.accepted ≡ text_of quiet (walk_of win (joined ps))
    unfolding text_of
    printed {rd} {w} {ps} {ts} c h =
        let T = calls-run c [] (fresh_holds win laws rd) (omega arith) in
        let r = walk_of win (joined ps) in
        let e : all T.frames w ≡ ran_of (fresh_of rd) (joined ps) r =
        sym (T.run.runs (length ps + length (joined ps)))
        ∙ cut win laws (joined ps) h (T.run.steps + suc (length ps + length (joined ps))) (length (joined ps)) (fresh_of rd) [] ps (fresh_holds win laws rd) refl (omega arith) (omega arith) (omega arith) in
        ap (λ (x : List ℕ). x ++ closing_of w.offset w.seen w.frames w.accepted) T.text
        ∙ ap (λ (x : Ran). lines_of quiet x.entries ++ closing_of x.state.offset x.state.seen x.state.frames x.state.accepted) e
        ∙ rw (zero-add (length r.entries), zero-add (accepts r.entries))

-- the same at the reader's own window answer by any reading, with the closing lines as the program writes them
pub frames-printed : (rd : Reading) (quiet : Bool) (w : Walk) (ps ts : List (List ℕ)) (out after : List ℕ) (n : ℕ) → Calls quiet (window_of rd) (fresh_of rd) ps ts w → length (joined ps) < 2 ^ 64
    → Wrote (closing_of w.offset w.seen w.frames w.accepted) out 0 after n
    → joined ts ++ take n after ≡ text_of quiet (walk_of (window_of rd) (joined ps))
frames-printed rd quiet w ps ts out after n c h p = ap (λ (x : List ℕ). joined ts ++ x) (wrote-front p) ∙ printed (window_of rd) (lawful rd) quiet c h

-- of whole blocks, as the program hands them on: all that it writes is the text of the walk of all that it read, where quiet without the lines of accepted
-- frames
pub output-is-text : (rd : Reading) (quiet : Bool) (ps : List (List ℕ)) (w : Walk) (O : Over quiet (window_of rd) ps (fresh_of rd) w) (out after : List ℕ) (n : ℕ) → length (joined ps) < 2 ^ 64
    → Wrote (closing_of w.offset w.seen w.frames w.accepted) out 0 after n
    → joined O.texts ++ take n after ≡ text_of quiet (walk_of (window_of rd) (joined ps))
output-is-text rd quiet ps w O out after n h p =
    rw (append-nil ps, append-nil O.texts) at (frames-printed rd quiet w (ps ++ []) (O.texts ++ []) out after n (O.rest over) (rw (append-nil ps) h) p)
