-- What one turn over a block does, and what the turns keep, over plain values.
-- Assumes nothing.
use Prim.Native.Nat.{ℕ, zero, suc, ◌≤◌, ◌<◌, ◌-◌, ◌+◌}
use mathlib.Core.Path.{◌≡◌, refl, sym, ap, ◌∙◌}
use mathlib.Core.Bool.{Bool, true, false, false≢true}
use mathlib.Core.Logic.{⊎_elim}
use mathlib.Core.List.{List, ◌++◌}
use native.Mathlib.Omega.{arith}
use native.Mathlib.Nat.{add-zero}
use borrow.Author.Tests.{lt-ltb, le-ltb}
use lib.ListN.{length, take, drop, length-drop, length-append}
use lib.Seq.{take_all}
use Rattle.format.proofs.Tests.{le-or-lt}
use Rattle.reader.specs.Window.{Window}
use Rattle.walk.specs.declared.Walk.{Walk}
use Rattle.walk.specs.declared.Stepped.{Stepped}
use Rattle.walk.specs.declared.Answer.{Answer}
use Rattle.walk.specs.declared.Answer.TheVariants.{Frame, WantsMore, Refused}
use Rattle.walk.specs.Walk.{put, done_of, past_of, more_of, step_of, Verdict}
use Rattle.walk.specs.Frames.{Entry}
use Rattle.text.specs.Decimal.{Wrote}
use Rattle.text.proofs.Laws.{sets-append, wrote-long, wrote_none}
use Rattle.lines.specs.declared.Why.{Why}
use Rattle.lines.specs.declared.Why.TheVariants.{Used, Full, Stopped}
use Rattle.lines.specs.declared.Blocked.{Blocked}
use Rattle.lines.specs.Lines.{line_of, lines_of}
use Rattle.lines.specs.Blocks.{longest, line_for, refuses_of, paused_of, Block, stopped, telling, followed, left_of, end_of, block_of, call_of, Called}
use Rattle.lines.proofs.Moves.{Moved, step-moved}

-- the three ways of a turn: nothing is left of the block, there is no room for another line, or a step is taken
pub turn : {A : Type 0} (b : List ℕ) (i room : ℕ) → (length b ≤ i → A) → (i < length b → room < longest → A) → (i < length b → longest ≤ room → A) → A
turn b i room used full step = ⊎_elim used (λ h. ⊎_elim (step h) (full h) (le-or-lt longest room)) (le-or-lt (length b) i)

-- the part from i on that is lent to a step
pub part-all : (b : List ℕ) (i : ℕ) → take (length b - i) (drop i b) ≡ drop i b
part-all b i = take_all (length b - i) (drop i b) (omega (arith, length-drop i b))

-- a line told is put in front
left-telling : (quiet : Bool) (e : Entry) (r : Block) (out out' : List ℕ) (o o' : ℕ) → Wrote (line_of quiet e) out o out' o' → left_of quiet out' o' r ≡ left_of quiet out o (telling e r)
unfolding lines_of
left-telling quiet e r out out' o o' p = rw (p.bytes, p.next) (sets-append (line_of quiet e) (lines_of quiet r.entries) out o)

end-telling : (quiet : Bool) (e : Entry) (r : Block) (out out' : List ℕ) (o o' : ℕ) → Wrote (line_of quiet e) out o out' o' → end_of quiet o' r ≡ end_of quiet o (telling e r)
unfolding lines_of
end-telling quiet e r out out' o o' p =
    let l : o' + length (lines_of quiet r.entries) ≡ o + length (line_of quiet e ++ lines_of quiet r.entries) =
    omega (arith, p.next, length-append (line_of quiet e) (lines_of quiet r.entries)) in
    rw l

-- a step that is not refused uses a byte or more, and none past the block
pub uses : (win : List ℕ → Window) (w : Walk) (b : List ℕ) (i : ℕ) (st : Stepped) → i < length b → step_of win w (drop i b) ≡ st → refuses_of st.answer ≡ false
    → (0 < st.used) × (i + st.used ≤ length b)
uses win w b i st h e x =
    let m : Moved w (drop i b) st = rw e at (step-moved win w (drop i b)) in
    let d = length-drop i b in
    (m.some x (omega arith), omega (arith, m.within))

module _ (quiet : Bool) (win : List ℕ → Window) where
  -- a turn that takes a step, by its answer
  abbrev pub after : Answer → ℕ → ℕ → Stepped → Walk → List ℕ → ℕ → Block
  after a k room st w b i =
      let rest : ℕ → Block = λ rm. block_of quiet win k rm st.state b (i + st.used) in
      followed a (λ e. telling e (rest (room - length (line_of quiet e)))) (rest room) (stopped w i Stopped)

  -- ---- the cases of `block_of`

  pub block-used : (k room : ℕ) (w : Walk) (b : List ℕ) (i : ℕ) → length b ≤ i → block_of quiet win k room w b i ≡ stopped w i Used
  unfolding block_of
  block-used zero room w b i h = refl
  block-used (suc k) room w b i h = rw (le-ltb i (length b) h)

  pub block-full : (k room : ℕ) (w : Walk) (b : List ℕ) (i : ℕ) → i < length b → room < longest → block_of quiet win (suc k) room w b i ≡ stopped w i Full
  unfolding block_of
  block-full k room w b i h r = rw (lt-ltb i (length b) h, lt-ltb room longest r)

  pub block-step : (k room : ℕ) (w : Walk) (b : List ℕ) (i : ℕ) (st : Stepped) → i < length b → longest ≤ room → step_of win w (drop i b) ≡ st
      → block_of quiet win (suc k) room w b i ≡ after st.answer k room st w b i
  unfolding block_of
  block-step k room w b i st h r e = rw (lt-ltb i (length b) h, le-ltb room longest r, e)

  pub block_refused : (k room : ℕ) (w : Walk) (b : List ℕ) (i : ℕ) (st : Stepped) → i < length b → longest ≤ room → step_of win w (drop i b) ≡ st
      → refuses_of st.answer ≡ true → block_of quiet win (suc k) room w b i ≡ stopped w i Stopped
  block_refused k room w b i st h r e = go st.answer refl
    where
      go : (a : Answer) → st.answer ≡ a → refuses_of a ≡ true → block_of quiet win (suc k) room w b i ≡ stopped w i Stopped
      go (Frame at size what) y z = absurd (false≢true z)
      go WantsMore y z = absurd (false≢true z)
      go (Refused n) y z = block-step k room w b i st h r e ∙ rw y

  same_after : (j k room : ℕ) (w : Walk) (b : List ℕ) (i : ℕ) (st : Stepped) (a : Answer)
      → (refuses_of a ≡ false → (rm : ℕ) → block_of quiet win j rm st.state b (i + st.used) ≡ block_of quiet win k rm st.state b (i + st.used))
      → after a j room st w b i ≡ after a k room st w b i
  same_after j k room w b i st (Frame at size what) ih =
      let e : Entry = record { at = at; size = size; what = what } in
      ap (telling e) (ih refl (room - length (line_of quiet e)))
  same_after j k room w b i st WantsMore ih = ih refl room
  same_after j k room w b i st (Refused n) ih = refl

  -- as many steps as there are bytes are enough
  block-enough : (j k room : ℕ) (w : Walk) (b : List ℕ) (i : ℕ) → length b - i ≤ j → length b - i ≤ k → block_of quiet win j room w b i ≡ block_of quiet win k room w b i
  block-enough zero k room w b i h g = block-used zero room w b i (omega arith) ∙ sym (block-used k room w b i (omega arith))
  block-enough (suc j) zero room w b i h g = block-used (suc j) room w b i (omega arith) ∙ sym (block-used zero room w b i (omega arith))
  block-enough (suc j) (suc k) room w b i h g =
      let st = step_of win w (drop i b) in
      turn b i room
      (λ le. block-used (suc j) room w b i le ∙ sym (block-used (suc k) room w b i le))
      (λ lt r. block-full j room w b i lt r ∙ sym (block-full k room w b i lt r))
      (λ lt r.
      block-step j room w b i st lt r refl
      ∙ same_after j k room w b i st st.answer
      (λ x rm.
      let u = uses win w b i st lt refl x in
      block-enough j k rm st.state b (i + st.used) (omega (arith, u.0)) (omega (arith, u.0)))
      ∙ sym (block-step k room w b i st lt r refl))

  -- a call that does nothing: nothing is left of the block, or the buffer has no room for a line
  called-stopped : (w : Walk) (b : List ℕ) (from : ℕ) (out : List ℕ) (at : ℕ) (y : Why) → call_of quiet win w b from out at ≡ stopped w from y
      → Called quiet win w b from out at out (record { state = w; from = from; at = at; why = y })
  unfolding lines_of
  called-stopped w b from out at y e = record { text = rw e; end = rw (e, add-zero at); inside = λ h. h }

  pub called-used : (w : Walk) (b : List ℕ) (from : ℕ) (out : List ℕ) (at : ℕ) → length b ≤ from
      → Called quiet win w b from out at out (record { state = w; from = from; at = at; why = Used })
  called-used w b from out at h = called-stopped w b from out at Used (block-used (length b - from) (length out - at) w b from h)

  pub called-full : (w : Walk) (b : List ℕ) (from : ℕ) (out : List ℕ) (at : ℕ) → from < length b → length out - at < longest
      → Called quiet win w b from out at out (record { state = w; from = from; at = at; why = Full })
  called-full w b from out at h r =
      let e : length b - from ≡ suc (length b - from - 1) = omega arith in
      called-stopped w b from out at Full (rw e (block-full (length b - from - 1) (length out - at) w b from h r))

  -- ---- the invariant: what is left to do, done to what is there, is the answer

  pub record Going (b : List ℕ) (from : ℕ) (out₀ : List ℕ) (at : ℕ) (w₀ : Walk) (out : List ℕ) (w : Walk) (i o : ℕ) : Type 0 where
    pub fuel : ℕ
    pub enough : length b - i ≤ fuel
    pub inside : i ≤ length b
    pub room : o ≤ length out
    pub long : length out ≡ length out₀
    pub text : left_of quiet out o (block_of quiet win fuel (length out - o) w b i) ≡ left_of quiet out₀ at (call_of quiet win w₀ b from out₀ at)
    pub end : end_of quiet o (block_of quiet win fuel (length out - o) w b i) ≡ end_of quiet at (call_of quiet win w₀ b from out₀ at)

  pub going_start : (b : List ℕ) (from : ℕ) (out : List ℕ) (at : ℕ) (w : Walk) → from ≤ length b → at ≤ length out → Going b from out at w out w from at
  going_start b from out at w h g =
      record { fuel = length b - from; enough = omega arith; inside = h; room = g; long = refl; text = refl; end = refl }

  module _ (b : List ℕ) (from : ℕ) (out₀ : List ℕ) (at : ℕ) (w₀ : Walk) (out : List ℕ) (w : Walk) (i o : ℕ) (G : Going b from out₀ at w₀ out w i o) where
    -- no further, for whatever reason
    going-stopped : (y : Why) → block_of quiet win G.fuel (length out - o) w b i ≡ stopped w i y
        → Called quiet win w₀ b from out₀ at out (record { state = w; from = i; at = o; why = y })
    unfolding lines_of
    going-stopped y e = record { text = rw e at G.text; end = rw (e, add-zero o) at G.end; inside = λ _. omega (arith, G.room, G.long) }

    pub going-used : length b ≤ i → Called quiet win w₀ b from out₀ at out (record { state = w; from = i; at = o; why = Used })
    going-used h = going-stopped Used (block-used G.fuel (length out - o) w b i h)

    some-fuel : i < length b → (k : ℕ) × (G.fuel ≡ suc k)
    some-fuel h = go G.fuel G.enough
      where
        go : (f : ℕ) → length b - i ≤ f → (k : ℕ) × (f ≡ suc k)
        go zero l = absurd (omega arith)
        go (suc k) l = (k, refl)

    pub going-full : i < length b → length out - o < longest → Called quiet win w₀ b from out₀ at out (record { state = w; from = i; at = o; why = Full })
    going-full h r =
        let f = some-fuel h in
        going-stopped Full (rw f.1 (block-full f.0 (length out - o) w b i h r))

    module _ (st : Stepped) (h : i < length b) (r : longest ≤ length out - o) (e : step_of win w (drop i b) ≡ st) where
      pub going-refused : refuses_of st.answer ≡ true → Called quiet win w₀ b from out₀ at out (record { state = w; from = i; at = o; why = Stopped })
      going-refused x =
          let f = some-fuel h in
          going-stopped Stopped (rw f.1 (block_refused f.0 (length out - o) w b i st h r e x))

      -- one step on: its line, if it has one, is put
      pub going_on : refuses_of st.answer ≡ false → (out' : List ℕ) (o' : ℕ) → Wrote (line_for quiet st.answer) out o out' o'
          → Going b from out₀ at w₀ out' st.state (i + st.used) o'
      going_on x out' o' p =
          let f = some-fuel h in
          let l : length out' ≡ length out = wrote-long p in
          let u = uses win w b i st h e x in
          let q : (left_of quiet out' o' (rest f.0 out' o') ≡ left_of quiet out o (here f.0)) × (end_of quiet o' (rest f.0 out' o') ≡ end_of quiet o (here f.0)) =
          go f.0 out' o' l st.answer refl x p in
          record {
            fuel = f.0;
            enough = omega (arith, G.enough, f.1);
            inside = u.1;
            room = omega (arith, p.inside);
            long = l ∙ G.long;
            text = q.0 ∙ rw (f.1, ← fold f.0) at G.text;
            end = q.1 ∙ rw (f.1, ← fold f.0) at G.end;
          }
        where
          rest : ℕ → List ℕ → ℕ → Block
          rest k out' o' = block_of quiet win k (length out' - o') st.state b (i + st.used)

          here : ℕ → Block
          here k = block_of quiet win (suc k) (length out - o) w b i

          fold : (k : ℕ) → here k ≡ block_of quiet win (suc k) (length out - o) w b i
          fold k = refl

          go : (k : ℕ) (out' : List ℕ) (o' : ℕ) → length out' ≡ length out → (a : Answer) → st.answer ≡ a → refuses_of a ≡ false → Wrote (line_for quiet a) out o out' o'
              → (left_of quiet out' o' (rest k out' o') ≡ left_of quiet out o (here k)) × (end_of quiet o' (rest k out' o') ≡ end_of quiet o (here k))
          go k out' o' l (Frame at size what) y z p =
              let en : Entry = record { at = at; size = size; what = what } in
              let rm : length out' - o' ≡ length out - o - length (line_of quiet en) = omega (arith, p.next, l) in
              let u = block-step k (length out - o) w b i st h r e in
              rw (u, y, ← rm) (left-telling quiet en (rest k out' o') out out' o o' p, end-telling quiet en (rest k out' o') out out' o o' p)
          go k out' o' l WantsMore y z p =
              let oo : o' ≡ o = omega (arith, p.next) in
              let bb : out' ≡ out = p.bytes in
              let u = block-step k (length out - o) w b i st h r e in
              rw (u, y, oo, bb) (refl, refl)
          go k out' o' l (Refused n) y z p = absurd (false≢true (sym z))

      -- a frame ends: its line is put
      pub going-frame : (u n : ℕ) (v : Verdict) → st ≡ done_of w u n v → (out' : List ℕ) (o' : ℕ)
          → Wrote (line_of quiet (record { at = w.offset; size = n; what = v })) out o out' o' → Going b from out₀ at w₀ out' (past_of w n v) (i + u) o'
      unfolding done_of
      going-frame u n v z out' o' p =
          let q : Wrote (line_for quiet st.answer) out o out' o' = rw z p in
          rw z at (going_on (ap (λ (x : Stepped). refuses_of x.answer) z) out' o' q)

    -- a call that goes on from here is a part of the whole call
    pub going-called : (after : List ℕ) (r : Blocked) → Called quiet win w b i out o after r → Called quiet win w₀ b from out₀ at after r
    going-called after r C =
        let e = block-enough (length b - i) G.fuel (length out - o) w b i (omega arith) G.enough in
        record {
          text = C.text ∙ ap (left_of quiet out o) e ∙ G.text;
          end = C.end ∙ ap (end_of quiet o) e ∙ G.end;
          inside = λ _. omega (arith, C.inside G.room, G.long);
        }

  -- the rest of the block ends no frame
  pub going-cut : (b : List ℕ) (from : ℕ) (out₀ : List ℕ) (at : ℕ) (w₀ : Walk) (out : List ℕ) (w : Walk) (i o : ℕ) → Going b from out₀ at w₀ out w i o
      → i < length b → longest ≤ length out - o → step_of win w (drop i b) ≡ more_of w (put w.held w.seen (drop i b)) (length (drop i b))
      → Called quiet win w₀ b from out₀ at out (record { state = paused_of w (drop i b); from = i + length (drop i b); at = o; why = Used })
  going-cut b from out₀ at w₀ out w i o G h r e =
      going-used b from out₀ at w₀ out (paused_of w (drop i b)) (i + length (drop i b)) o
      (going_on b from out₀ at w₀ out w i o G (more_of w (put w.held w.seen (drop i b)) (length (drop i b))) h r e refl out o (wrote_none out o G.room))
      (omega (arith, length-drop i b))
