-- The frame that a state is in, ended or carried on by a block, over plain values.
-- Assumes nothing.
use Prim.Native.Nat.{ℕ, ◌≤◌, ◌<◌, ◌-◌, ◌+◌, ◌*◌, ◌^◌}
use mathlib.Core.Path.{◌≡◌, refl, sym, ap, ◌∙◌}
use mathlib.Core.Bool.{Bool, true, false}
use mathlib.Core.List.{List, [], ◌∷◌, append-nil}
use mathlib.Core.Logic.{◌⊎◌, inl, inr, ⊎_elim}
use native.Mathlib.Omega.{arith}
use native.Mathlib.Nat.{add-zero, zero-add}
use lib.ListN.{length, drop, length-drop}
use Rattle.reader.specs.Window.{Window}
use Rattle.walk.specs.declared.Walk.{Walk}
use Rattle.walk.specs.Walk.{frame_size, count_of, judge_of, put, ready_of, done_of, more_of, past_of, step_of}
use Rattle.walk.proofs.Held.{put-started}
use Rattle.walk.proofs.Cases.{moved_more, moved-done, count-one}
use Rattle.walk.specs.Frames.{Entry, accepts}
use Rattle.text.specs.Decimal.{Wrote}
use Rattle.lines.specs.declared.Gone.{Gone}
use Rattle.lines.specs.declared.Why.TheVariants.{Used}
use Rattle.lines.specs.declared.Blocked.{Blocked}
use Rattle.lines.specs.Lines.{line_of, lines_of}
use Rattle.lines.specs.Blocks.{longest, start_of, Called}
use Rattle.lines.specs.Whole.{Cutting, entry_at, Frames, none, more, Goes}
use Rattle.lines.proofs.Turns.{Going, going_start, going-frame, going-cut, going-called}
use Rattle.lines.proofs.Starts.{ready-all, ready-moves}

module _ (quiet : Bool) (win : List ℕ → Window) (w : Walk) (b : List ℕ) (from : ℕ) (out : List ℕ) (at : ℕ) (h : from < length b) (space : at + longest ≤ length out)
    (e : ready_of w (length b - from) ≡ true) (held : List ℕ) (size : ℕ) (x : held ≡ put w.held w.seen (drop from b)) (z : size ≡ frame_size held) where
  ready-here : ready_of w (length (drop from b)) ≡ true
  ready-here = ap (ready_of w) (length-drop from b) ∙ e

  begun : Going quiet win b from out at w out w from at
  begun = going_start quiet win b from out at w (omega arith) (omega arith)

  -- its last byte is not in the block
  pub inside-cut : w.seen + (length b - from) < size
      → Called quiet win w b from out at out
      (record {
        state = record { offset = w.offset; seen = w.seen + (length b - from); held = held; frames = w.frames; accepted = w.accepted; reading = w.reading };
        from = from + (length b - from);
        at = at;
        why = Used;
      })
  inside-cut lt =
      let d = length-drop from b in
      let m : step_of win w (drop from b) ≡ more_of w (put w.held w.seen (drop from b)) (length (drop from b)) =
      ready-moves win w (drop from b) ready-here
      ∙ sym (moved_more win w (drop from b) (put w.held w.seen (drop from b)) size refl (z ∙ ap frame_size x) (omega arith)) in
      rw (x, ← d) (going-cut quiet win b from out at w out w from at begun h (omega arith) m)

  pub record Fitting (count : ℕ) : Type 0 where
    pub within : from + (size - w.seen) ≤ length b
    pub more : w.seen ≤ size
    pub room : w.offset + size + (length b - (from + (size - w.seen))) < 2 ^ 64
    pub two : 2 * (w.frames + 1) ≤ w.offset + size
    pub counted : w.accepted + count ≤ w.frames + 1

  pub inside-fits : (count : ℕ) → count ≡ count_of (judge_of win held size) → size ≤ w.seen + (length b - from) → Fitting count
  inside-fits count c le =
      let r = ready-all w (length b - from) e in
      let s = put-started w.held w.seen (drop from b) r.started in
      let f : size ≡ frame_size (put w.held w.seen (drop from b)) = z ∙ ap frame_size x in
      let k = count-one (judge_of win held size) in
      record {
        within = omega arith;
        more = omega arith;
        room = omega (arith, r.room);
        two = omega (arith, r.two);
        counted = omega (arith, r.counted);
      }

  -- it is: the frame's line, and then the block from there on
  pub inside-line : size ≤ w.seen + (length b - from) → (out' : List ℕ) (o' count : ℕ)
      → Wrote (line_of quiet (record { at = w.offset; size = size; what = judge_of win held size })) out at out' o' → count ≡ count_of (judge_of win held size)
      → (after : List ℕ) (r : Blocked)
      → Called quiet win (start_of (w.offset + size) (w.frames + 1) (w.accepted + count) w.reading) b (from + (size - w.seen)) out' o' after r
      → Called quiet win w b from out at after r
  inside-line le out' o' count p c after r C =
      let d = length-drop from b in
      let v = judge_of win held size in
      let m : step_of win w (drop from b) ≡ done_of w (size - w.seen) size v =
      ready-moves win w (drop from b) ready-here
      ∙ sym (moved-done win w (drop from b) size v (done_of w (size - w.seen) size v) (z ∙ ap frame_size x) (omega arith) (ap (λ (l : List ℕ). judge_of win l size) x) refl) in
      going-called quiet win b from out at w out' (past_of w size v) (from + (size - w.seen)) o'
      (going-frame quiet win b from out at w out w from at begun (done_of w (size - w.seen) size v) h (omega arith) m (size - w.seen) size v refl out' o' p)
      after r (rw c at C)

-- the frame that the held bytes begin is told, and it alone
module _ (quiet : Bool) (win : List ℕ → Window) (held : List ℕ) (size offset long to : ℕ) (two : 2 ≤ length held) (z : size ≡ frame_size held) where
  abbrev one : Entry
  one = entry_at win held 0 offset 0

  pub record Alone (es : List Entry) (j : ℕ) : Type 0 where
    pub all : es ≡ one ∷ []
    pub whole : j ≡ size

  alone-or : {es : List Entry} {j : ℕ} → Frames quiet win held size 0 offset long to es j → ((es ≡ []) × (j ≡ 0)) ⊎ Alone es j
  alone-or none = inl (refl, refl)
  alone-or (more {es} {j} F E r) =
      ⊎_elim
      (λ n. inr (record { all = rw (n.0, n.1) refl; whole = rw (n.1, zero-add (frame_size held)) (sym z) }))
      (λ a. absurd (omega (arith, E.before, a.whole)))
      (alone-or F)

  pub alone : {es : List Entry} {j : ℕ} → Frames quiet win held size 0 offset long to es j → (full : Bool) → (full ≡ false → Cutting held size j)
      → (full ≡ true → long < to + length (lines_of quiet es) + longest) → to + longest ≤ long → Alone es j
  unfolding lines_of
  alone {es} {j} F full c f room = ⊎_elim (λ n. absurd (stopped full refl n.0 n.1)) (λ a. a) (alone-or F)
    where
      stopped : (b : Bool) → full ≡ b → es ≡ [] → j ≡ 0 → ⊥
      stopped true e n i = omega (arith, rw n at (f e), room)
      stopped false e n i =
          ⊎_elim (λ le. omega (arith, le, i, z))
          (λ d. ⊎_elim (λ few. omega (arith, few, i, two)) (λ short. let x : size - 0 < frame_size held = rw i at short in omega (arith, x, z)) d)
          (c e)

-- what the held frame leaves: its line, and one frame more
module _ (quiet : Bool) (win : List ℕ → Window) (held : List ℕ) (size offset frames accepted : ℕ) (out : List ℕ) (to : ℕ) (after : List ℕ) (g : Gone)
    (G : Goes quiet win held size 0 offset frames accepted out to after g) (two : 2 ≤ length held) (z : size ≡ frame_size held) (room : to + longest ≤ length out) where
  told-alone : Alone quiet win held size offset (length out) to two z G.entries g.at
  told-alone =
      alone quiet win held size offset (length out) to two z G.run g.full (λ e. (G.cut e).0) (λ e. omega (arith, (G.full e).1, G.text.next)) room

  here : entry_at win held 0 offset 0 ≡ record { at = offset; size = size; what = judge_of win held size }
  here = rw (z, add-zero offset)

  pub record One : Type 0 where
    pub line : Wrote (line_of quiet (record { at = offset; size = size; what = judge_of win held size })) out to after g.to
    pub past : g.counts.offset ≡ offset + size
    pub told : g.counts.frames ≡ frames + 1
    pub good : g.counts.accepted ≡ accepted + count_of (judge_of win held size)

  pub held_one : One
  unfolding lines_of accepts
  held_one =
      let a : accepts G.entries ≡ count_of (judge_of win held size) + 0 = ap accepts told-alone.all ∙ rw z in
      record {
        line = rw (told-alone.all, here, append-nil (line_of quiet (record { at = offset; size = size; what = judge_of win held size }))) at G.text;
        past = omega (arith, G.past, told-alone.whole);
        told = G.told ∙ ap (λ (l : List Entry). frames + length l) told-alone.all;
        good = omega (arith, G.good, a);
      }
