-- The loops that tell of frames, over plain values: what was told so far.
-- Assumes nothing.
use Prim.Native.Nat.{ℕ, ◌+◌, ◌-◌, ◌*◌, ◌≤◌, ◌<◌, min}
use mathlib.Core.Path.{◌≡◌, refl, sym, ap, ◌∙◌}
use mathlib.Core.Bool.{Bool, true, false, cond, false≢true}
use mathlib.Core.List.{List, [], ◌∷◌, ◌++◌, append_assoc, append-nil}
use native.Mathlib.Omega.{arith}
use borrow.Author.Tests.{ltb-false}
use lib.Dec.{ltb}
use lib.ListN.{length, take, drop, length-take, length-append}
use Rattle.std.specs.Prelude.{Ok, Err}
use Rattle.format.specs.declared.Reading.{Reading}
use Rattle.format.specs.declared.Fault.TheVariants.{Short, Refused}
use Rattle.format.specs.Meaning.{refusal}
use Rattle.records.specs.declared.Message.{Message}
use Rattle.reader.specs.Window.{window_of, Window}
use Rattle.laws.proofs.Answers.{covers}
use Rattle.walk.specs.Walk.{frame_size, verdict_of, count_of, judge_of, Verdict}
use Rattle.walk.specs.Frames.{Entry, accepts}
use Rattle.text.specs.Decimal.{decimal_of, Wrote}
use Rattle.text.proofs.Laws.{wrote_none, wrote-append, wrote_as, wrote-long}
use Rattle.lines.specs.declared.counts.Counts.{Counts}
use Rattle.lines.specs.declared.Halt.{Halt}
use Rattle.lines.specs.declared.Halted.{Halted}
use Rattle.format.specs.declared.Refusal.{Refusal}
use Rattle.std.specs.Prelude.{Err}
use Rattle.lines.specs.declared.Halt.TheVariants.{Cut, Full, Bad as Refused}
use Rattle.lines.specs.Lines.{accepted_of, refused_of, line_of, lines_of}
use Rattle.lines.specs.Blocks.{longest}
use Rattle.lines.specs.Whole.{look_of, Cutting, entry_at, Ends, Frames, none, more, Halting, cut, full, refused, Halts, Goes}

-- ---- the lines, the accepted and the number of frames that are told one behind the other

pub lines-append : (quiet : Bool) (es fs : List Entry) → lines_of quiet (es ++ fs) ≡ lines_of quiet es ++ lines_of quiet fs
unfolding lines_of
lines-append quiet [] fs = refl
lines-append quiet (e ∷ es) fs = rw (lines-append quiet es fs, append_assoc)

pub lines-last : (quiet : Bool) (es : List Entry) (e : Entry) → lines_of quiet (es ++ (e ∷ [])) ≡ lines_of quiet es ++ line_of quiet e
unfolding lines_of
lines-last quiet es e = lines-append quiet es (e ∷ []) ∙ rw (append-nil (line_of quiet e))

pub accepts-append : (es fs : List Entry) → accepts (es ++ fs) ≡ accepts es + accepts fs
unfolding accepts
accepts-append [] fs = omega arith
accepts-append (e ∷ es) fs = omega (arith, accepts-append es fs)

pub accepts_last : (es : List Entry) (e : Entry) → accepts (es ++ (e ∷ [])) ≡ accepts es + count_of e.what
unfolding accepts
accepts_last es e = omega (arith, accepts-append es (e ∷ []))

pub many-last : (es : List Entry) (e : Entry) → length (es ++ (e ∷ [])) ≡ length es + 1
many-last es e = length-append es (e ∷ [])

module _ (quiet : Bool) (win : List ℕ → Window) (s : List ℕ) (have from offset : ℕ) (out₀ : List ℕ) (to : ℕ) where
  -- so many accepted frames were told, up to place i, and their lines are in the buffer
  pub record Telling (out : List ℕ) (i o count : ℕ) : Type 0 where
    pub entries : List Entry
    pub frames : Frames quiet win s have from offset (length out₀) to entries i
    pub many : length entries ≡ count
    pub all : accepts entries ≡ count
    pub text : Wrote (lines_of quiet entries) out₀ to out o
    pub ahead : from + count ≤ i
    pub within : i ≤ have
    pub wide : longest ≤ length out₀

  pub telling-start : from ≤ have → to ≤ length out₀ → longest ≤ length out₀ → Telling out₀ from to 0
  unfolding lines_of accepts
  telling-start h g w =
      record { entries = []; frames = none; many = refl; all = refl; text = wrote_none out₀ to g; ahead = omega arith; within = h; wide = w }

  module _ (out : List ℕ) (i o count : ℕ) (T : Telling out i o count) where
    -- no further accepted frame, for whatever reason
    halts : (why : Halt) → Halting win s have (length out₀) i o why → Halts quiet win s have from offset out₀ to out (record { at = i; to = o; count = count; why = why })
    halts why h = record { entries = T.entries; frames = T.frames; many = T.many; all = T.all; text = T.text; why = h }

    pub telling-cut : Cutting s have i → (i < have → o ≤ length out₀ - longest)
        → Halts quiet win s have from offset out₀ to out (record { at = i; to = o; count = count; why = Cut })
    telling-cut h space = halts Cut (cut h (λ l. omega (arith, space l, T.wide)))

    pub telling-full : i < have → length out₀ - longest < o → Halts quiet win s have from offset out₀ to out (record { at = i; to = o; count = count; why = Full })
    telling-full h r = halts Full (full h (omega (arith, r, T.wide)))

    -- a frame of this size begins here and ends within the bytes
    module _ (size : ℕ) (E : Ends s have i) (z : size ≡ frame_size (drop i s)) (space : o ≤ length out₀ - longest) where
      pub telling-refused : (v : Verdict) → v ≡ judge_of win (drop i s) size → (r : Refusal) → look_of v ≡ Err r
          → Halts quiet win s have from offset out₀ to out (record { at = i; to = o; count = count; why = Refused r size })
      telling-refused (Ok m) e r n = let x : ◌≡◌ {A = ℕ} 0 1 = cc in absurd (omega arith)
      telling-refused (Err q) e r n =
          let j : judge_of win (drop i s) (frame_size (drop i s)) ≡ Err q = rw z at (sym e) in
          let b : q ≡ r = cc in
          rw (← b) (halts (Refused q size) (rw z (refused q E (omega (arith, space, T.wide)) j)))

      pub telling-more : (m : Message) → judge_of win (drop i s) size ≡ Ok m → (out' : List ℕ) (o' : ℕ)
          → Wrote (cond quiet [] (decimal_of (offset + (i - from)) ++ accepted_of m.tag size)) out o out' o' → Telling out' (i + size) o' (count + 1)
      unfolding line_of
      telling-more m e out' o' q =
          let en = entry_at win s from offset i in
          let j : judge_of win (drop i s) (frame_size (drop i s)) ≡ Ok m = rw z at e in
          let q' : Wrote (cond quiet [] (decimal_of (offset + (i - from)) ++ accepted_of m.tag (frame_size (drop i s)))) out o out' o' = rw z at q in
          let line : Wrote (line_of quiet en) out o out' o' = rw j q' in
          record {
            entries = T.entries ++ (en ∷ []);
            frames = rw z (more T.frames E (omega (arith, space, T.text.next, T.wide)));
            many = omega (arith, many-last T.entries en, T.many);
            all = omega (arith, accepts_last T.entries en, T.all, ap count_of j);
            text = wrote_as (lines-last quiet T.entries en) (wrote-append T.text line);
            ahead = omega (arith, T.ahead);
            within = omega (arith, E.whole, E.before);
            wide = T.wide;
          }

-- an accepted frame's size has two digits
pub accepted-size : (rd : Reading) (s : List ℕ) (size : ℕ) (m : Message) → judge_of (window_of rd) s size ≡ Ok m → (13 ≤ size) × (size ≤ 52)
unfolding judge_of
accepted-size rd s size m = go (window_of rd (take (min size 52) s)) refl
  where
    go : (w : Window) → window_of rd (take (min size 52) s) ≡ w → verdict_of w size ≡ Ok m → (13 ≤ size) × (size ≤ 52)
    go (Err Short) e v = absurd (omega (arith, ap count_of v))
    go (Err (Refused r)) e v = absurd (omega (arith, ap count_of v))
    go (Ok (n, used)) e v = by (ltb used size) refl v
      where
        by : (b : Bool) → ltb used size ≡ b → cond b (Err (refusal 21 0)) (Ok n) ≡ Ok m → (13 ≤ size) × (size ≤ 52)
        by true l x = absurd (omega (arith, ap count_of x))
        by false l x =
            let q = covers rd (take (min size 52) s) n used e in
            let long = length-take (min size 52) s in
            (omega (arith, q.2, q.1, long, ltb-false used size l), omega (arith, q.1, long, ltb-false used size l))

-- ---- the loop over all frames

module _ (quiet : Bool) (win : List ℕ → Window) (s : List ℕ) (have : ℕ) where
  -- each frame has two bytes or more
  pub frames-far : {from offset long to j : ℕ} {es : List Entry} → from ≤ have → Frames quiet win s have from offset long to es j
      → (from + 2 * length es ≤ j) × (j ≤ have)
  frames-far h none = (omega arith, h)
  frames-far {from} {offset} {long} {to} h (more {es} {j} F E r) =
      let f = frames-far h F in
      (omega (arith, f.0, many-last es (entry_at win s from offset j)), omega (arith, E.whole, E.before))

  -- frames, and more frames behind them
  pub frames-join : {from offset long to i off o end : ℕ} {ds es : List Entry} → from ≤ i → off ≡ offset + (i - from) → o ≡ to + length (lines_of quiet ds)
      → i ≤ have → Frames quiet win s have from offset long to ds i → Frames quiet win s have i off long o es end → Frames quiet win s have from offset long to (ds ++ es) end
  frames-join {from} {offset} {long} {to} {i} {off} {o} {end} {ds} h e t w F none = rw (append-nil ds) F
  frames-join {from} {offset} {long} {to} {i} {off} {o} {end} {ds} h e t w F (more {es} {j} G E r) =
      let f = frames-far w G in
      let at : off + (j - i) ≡ offset + (j - from) = omega (arith, e, f.0) in
      let lines = ap length (lines-append quiet ds es) ∙ length-append (lines_of quiet ds) (lines_of quiet es) in
      rw (at, ← append_assoc ds es (entry_at win s from offset j ∷ [])) (more (frames-join h e t w F G) E (omega (arith, r, t, lines)))

module _ (quiet : Bool) (win : List ℕ → Window) (s : List ℕ) (have from offset frames accepted : ℕ) (out₀ : List ℕ) (to : ℕ) where
  -- these frames were told, up to place i, and counted
  pub record Passing (out : List ℕ) (i o off fr acc : ℕ) : Type 0 where
    pub entries : List Entry
    pub run : Frames quiet win s have from offset (length out₀) to entries i
    pub text : Wrote (lines_of quiet entries) out₀ to out o
    pub past : off ≡ offset + (i - from)
    pub told : fr ≡ frames + length entries
    pub good : acc ≡ accepted + accepts entries
    pub ahead : from ≤ i
    pub within : i ≤ have
    pub two : 2 * fr ≤ off
    pub counted : acc ≤ fr

  pub passing-start : from ≤ have → to ≤ length out₀ → 2 * frames ≤ offset → accepted ≤ frames → Passing out₀ from to offset frames accepted
  unfolding lines_of accepts
  passing-start h g t c =
      record {
        entries = [];
        run = none;
        text = wrote_none out₀ to g;
        past = omega arith;
        told = omega arith;
        good = omega arith;
        ahead = omega arith;
        within = h;
        two = t;
        counted = c;
      }

  module _ (out : List ℕ) (i o off fr acc : ℕ) (P : Passing out i o off fr acc) (out' : List ℕ) (r : Halted) (H : Halts quiet win s have i off out o out' r) where
    long : length out ≡ length out₀
    long = wrote-long P.text

    pub far : (i + 2 * r.count ≤ r.at) × (r.at ≤ have)
    far = rw H.many at (frames-far quiet win s have P.within H.frames)

    both : Frames quiet win s have from offset (length out₀) to (P.entries ++ H.entries) r.at
    both = frames-join quiet win s have P.ahead P.past P.text.next P.within P.run (rw long at H.frames)

    all_lines : lines_of quiet (P.entries ++ H.entries) ≡ lines_of quiet P.entries ++ lines_of quiet H.entries
    all_lines = lines-append quiet P.entries H.entries

    many-both : length (P.entries ++ H.entries) ≡ length P.entries + r.count
    many-both = length-append P.entries H.entries ∙ ap (λ (n : ℕ). length P.entries + n) H.many

    good-both : accepts (P.entries ++ H.entries) ≡ accepts P.entries + r.count
    good-both = accepts-append P.entries H.entries ∙ ap (λ (n : ℕ). accepts P.entries + n) H.all

    -- no further: cut, or no room
    module _ (c : Counts) (past : c.offset ≡ off + (r.at - i)) (told : c.frames ≡ fr + r.count) (good : c.accepted ≡ acc + r.count) where
      ended : (b : Bool) → (b ≡ false → Cutting s have r.at × (r.at < have → r.to + longest ≤ length out₀))
          → (b ≡ true → (r.at < have) × (length out₀ < r.to + longest))
          → Goes quiet win s have from offset frames accepted out₀ to out' (record { at = r.at; to = r.to; counts = c; full = b })
      ended b k f =
          record {
            entries = P.entries ++ H.entries;
            run = both;
            text = wrote_as all_lines (wrote-append P.text H.text);
            past = omega (arith, past, P.past, P.ahead, far.0);
            told = omega (arith, told, P.told, many-both);
            good = omega (arith, good, P.good, good-both);
            cut = k;
            full = f;
          }

      pub passing-cut : r.why ≡ Cut → Goes quiet win s have from offset frames accepted out₀ to out' (record { at = r.at; to = r.to; counts = c; full = false })
      passing-cut y = go r.why H.why y
        where
          go : (h : Halt) → Halting win s have (length out) r.at r.to h → h ≡ Cut
              → Goes quiet win s have from offset frames accepted out₀ to out' (record { at = r.at; to = r.to; counts = c; full = false })
          go _ (cut k space) z = ended false (λ _. (k, λ l. omega (arith, space l, long))) (λ e. absurd (false≢true e))
          go _ (full lt room) z = let x : ◌≡◌ {A = ℕ} 0 1 = cc in absurd (omega arith)
          go _ (refused w E room j) z = let x : ◌≡◌ {A = ℕ} 0 1 = cc in absurd (omega arith)

      pub passing-full : r.why ≡ Full → Goes quiet win s have from offset frames accepted out₀ to out' (record { at = r.at; to = r.to; counts = c; full = true })
      passing-full y = go r.why H.why y
        where
          go : (h : Halt) → Halting win s have (length out) r.at r.to h → h ≡ Full
              → Goes quiet win s have from offset frames accepted out₀ to out' (record { at = r.at; to = r.to; counts = c; full = true })
          go _ (cut k space) z = let x : ◌≡◌ {A = ℕ} 0 1 = cc in absurd (omega arith)
          go _ (full lt room) z = ended true (λ e. absurd (false≢true (sym e))) (λ _. (lt, omega (arith, room, long)))
          go _ (refused w E room j) z = let x : ◌≡◌ {A = ℕ} 0 1 = cc in absurd (omega arith)

    -- a refused frame: its line is put, and the frames behind it follow
    pub passing-on : (q : Refusal) (size : ℕ) → r.why ≡ Refused q size → (out'' : List ℕ) (o' : ℕ)
        → Wrote (decimal_of (off + (r.at - i)) ++ refused_of q.number q.place) out' r.to out'' o'
        → Passing out'' (r.at + size) o' (off + (r.at - i) + size) (fr + r.count + 1) (acc + r.count)
    unfolding line_of
    passing-on q size y out'' o' t = go r.why H.why y
      where
        go : (h : Halt) → Halting win s have (length out) r.at r.to h → h ≡ Refused q size
            → Passing out'' (r.at + size) o' (off + (r.at - i) + size) (fr + r.count + 1) (acc + r.count)
        go _ (cut c space) z = let x : ◌≡◌ {A = ℕ} 0 1 = cc in absurd (omega arith)
        go _ (full lt room) z = let x : ◌≡◌ {A = ℕ} 0 1 = cc in absurd (omega arith)
        go _ (refused w E room j) z =
            let qq : w ≡ q = cc in
            let ss : frame_size (drop r.at s) ≡ size = cc in
            let en = entry_at win s from offset r.at in
            let at : offset + (r.at - from) ≡ off + (r.at - i) = omega (arith, P.past, P.ahead, far.0) in
            let line : line_of quiet en ≡ decimal_of (off + (r.at - i)) ++ refused_of q.number q.place = rw (at, j, qq) in
            let lines : lines_of quiet ((P.entries ++ H.entries) ++ (en ∷ []))
            ≡ (lines_of quiet P.entries ++ lines_of quiet H.entries) ++ (decimal_of (off + (r.at - i)) ++ refused_of q.number q.place) =
            lines-last quiet (P.entries ++ H.entries) en ∙ rw (all_lines, line) in
            let many = ap length all_lines ∙ length-append (lines_of quiet P.entries) (lines_of quiet H.entries) in
            rw (← ss)
            (record {
              entries = (P.entries ++ H.entries) ++ (en ∷ []);
              run = more both E (omega (arith, room, long, P.text.next, H.text.next, many));
              text = wrote_as lines (wrote-append (wrote-append P.text H.text) t);
              past = omega (arith, P.past, P.ahead, far.0);
              told = omega (arith, P.told, many-both, many-last (P.entries ++ H.entries) en);
              good = omega (arith, P.good, good-both, accepts_last (P.entries ++ H.entries) en, ap count_of j);
              ahead = omega (arith, P.ahead, far.0);
              within = omega (arith, E.whole, E.before);
              two = omega (arith, P.two, far.0);
              counted = omega (arith, P.counted);
            })

-- at a refused frame there is room for its line
pub halts-bad : {quiet : Bool} {win : List ℕ → Window} {s : List ℕ} {have i off : ℕ} {out : List ℕ} {o : ℕ} {out' : List ℕ} {r : Halted}
    → Halts quiet win s have i off out o out' r → (q : Refusal) (size : ℕ) → r.why ≡ Refused q size
    → (r.to + longest ≤ length out') × (r.at < have) × (size ≤ have - r.at) × (2 ≤ size)
halts-bad {quiet} {win} {s} {have} {i} {off} {out} {o} {out'} {r} H q size y = go r.why H.why y
  where
    go : (h : Halt) → Halting win s have (length out) r.at r.to h → h ≡ Refused q size
        → (r.to + longest ≤ length out') × (r.at < have) × (size ≤ have - r.at) × (2 ≤ size)
    go _ (cut c space) z = let x : ◌≡◌ {A = ℕ} 0 1 = cc in absurd (omega arith)
    go _ (full lt room) z = let x : ◌≡◌ {A = ℕ} 0 1 = cc in absurd (omega arith)
    go _ (refused w E room j) z =
        let ss : frame_size (drop r.at s) ≡ size = cc in
        (omega (arith, room, wrote-long H.text), E.before, omega (arith, E.whole, ss), omega (arith, ss))
