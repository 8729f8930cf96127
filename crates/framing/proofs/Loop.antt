-- What the program's loops keep, over plain values.
-- Assumes nothing.
use Prim.Native.Nat.{ℕ, ◌≤◌, ◌<◌, ◌-◌, ◌+◌}
use mathlib.Core.Path.{◌≡◌, refl, sym, ap, subst, ◌∙◌}
use mathlib.Core.Bool.{Bool, true, false, false≢true}
use mathlib.Core.List.{List, [], ◌∷◌, ◌++◌, append_assoc}
use mathlib.Core.Logic.{◌⊎◌, inl, inr, ⊎_elim}
use native.Mathlib.Omega.{arith}
use lib.ListN.{length, take, drop}
use Rattle.std.specs.Prelude.{Result, Ok, Err}
use lib.Seq.{length-sets, length-take-le}
use Rattle.format.specs.declared.Reading.{Reading}
use Rattle.reader.specs.Window.{window_of}
use Rattle.walk.specs.declared.Walk.{Walk}
use Rattle.walk.specs.declared.Answer.TheVariants.{Refused}
use Rattle.walk.specs.Walk.{fresh_of, step_of, own_step}
use Rattle.demand.specs.Promises.{Reached, start}
use Rattle.demand.proofs.Demand3.{reached-reading}
use Rattle.lines.specs.declared.Blocked.{Blocked}
use Rattle.lines.specs.Lines.{lines_of, closing_of}
use Rattle.lines.specs.Blocks.{stops_of, call_of, Called}
use Rattle.lines.proofs.Kept.{kept, went}
use Rattle.output.specs.Calls.{next, call, Since, Over}
use Rattle.standard.specs.declared.Brought.{Brought}
use Rattle.standard.specs.Reads.{Reads, bytes_of}
use Rattle.framing.specs.declared.sent.Sent.{Sent}
use Rattle.framing.specs.declared.Run.{Run}
use Rattle.framing.specs.Texts.{Lines, Closes}
use Rattle.framing.specs.Told.{Walked, Short, Behind, Fresh, Ended}
use Rattle.framing.proofs.Stops.{reached-sane, reaches, refused-33}

-- ---- over a block

pub record In (q : Bool) (rd : Reading) (b : List ℕ) (w₀ w : Walk) (i : ℕ) : Type 0 where
  pub inside : i ≤ length b
  pub reached : Reached (window_of rd) rd w
  pub since : Since q (window_of rd) w₀ b 0 w i
  pub bytes : w.offset + w.seen ≡ w₀.offset + w₀.seen + i

pub in_start : (q : Bool) (rd : Reading) (b : List ℕ) (w : Walk) → Reached (window_of rd) rd w → In q rd b w w 0
in_start q rd b w r = record { inside = omega arith; reached = r; since = record { texts = []; rest = λ c. c }; bytes = omega arith }

-- a call of `walk_block`, which goes by the reading in its state
module _ (q : Bool) (rd : Reading) (b : List ℕ) (w₀ w : Walk) (i : ℕ) (out after : List ℕ) (r : Blocked) (I : In q rd b w₀ w i)
    (called : Called q (window_of w.reading) w b i out 0 after r) where
  -- it is the walk's
  C : Called q (window_of rd) w b i out 0 after r
  C = subst (λ (e : Reading). Called q (window_of e) w b i out 0 after r) (reached-reading I.reached) called

  pub called-long : length after ≡ length out
  called-long = ap length C.text ∙ length-sets out 0 (lines_of q (call_of q (window_of rd) w b i out 0).entries)

  pub called-reached : Reached (window_of rd) rd r.state
  called-reached = rw C.end (reaches rd q (length b - i) (length out - 0) w b i I.reached).reached

  pub called-in : In q rd b w₀ r.state r.from
  called-in =
      let k = kept q (window_of rd) (length b - i) (length out - 0) w b i I.inside in
      let x : r.state ≡ (call_of q (window_of rd) w b i out 0).state = ap (λ (z : Blocked). z.state) C.end in
      let y : r.from ≡ (call_of q (window_of rd) w b i out 0).from = ap (λ (z : Blocked). z.from) C.end in
      record {
        inside = rw y k.within;
        reached = called-reached;
        since = record {
          texts = I.since.texts ++ (take r.at after ∷ []);
          rest = λ {ps} {ts} {w'} c. rw (append_assoc I.since.texts (take r.at after ∷ []) ts) (I.since.rest (call b i out after r C c));
        };
        bytes = rw (x, y) (omega (arith, k.bytes, I.bytes));
      }

  pub called-went : i < length b → 137 ≤ length out → stops_of r.why ≡ false → i < r.from
  called-went h l s =
      let y : r.why ≡ (call_of q (window_of rd) w b i out 0).why = ap (λ (z : Blocked). z.why) C.end in
      rw C.end (went q (window_of rd) (length b - i) (length out - 0) w b i h (omega arith) (omega arith) (sym (ap stops_of y) ∙ s))

  -- where it stopped, the next step refuses 33
  called-33 : stops_of r.why ≡ true → (own_step r.state (drop r.from b)).answer ≡ Refused 33
  called-33 s =
      let y : r.why ≡ (call_of q (window_of rd) w b i out 0).why = ap (λ (z : Blocked). z.why) C.end in
      let R = reaches rd q (length b - i) (length out - 0) w b i I.reached in
      let z : (step_of (window_of rd) r.state (drop r.from b)).answer ≡ Refused 33 =
      rw C.end (refused-33 rd _ _ R.reached (R.refuses (sym (ap stops_of y) ∙ s))) in
      subst (λ (e : Reading). (step_of (window_of e) r.state (drop r.from b)).answer ≡ Refused 33) (sym (reached-reading called-reached)) z

  -- the call is the last, and leads to what was sent
  pub in-short : (x : Sent) → x.quiet ≡ q → x.state ≡ r.state → (x.written.taken ≡ false) ⊎ (stops_of r.why ≡ true) → Short q rd b w₀ x
  in-short x u e y =
      record {
        told = u;
        reached = rw e called-reached;
        place = i;
        state = w;
        since = I.since;
        out = out;
        after = after;
        answer = r;
        called = C;
        sent = e;
        why = ⊎_elim inl (λ s. inr (rw e (called-33 s))) y;
      }

-- the lines of a call are of the kind that all before were
pub lines-of : (q : Bool) (s : Sent) (b : List ℕ) (i : ℕ) (out after : List ℕ) (r : Blocked) → s.quiet ≡ q → s.written.taken ≡ true
    → Called q (window_of s.state.reading) s.state b i out 0 after r → Lines s b i r (take r.at after)
lines-of q s b i out after r u t C =
    record { good = t; out = out; after = after; called = subst (λ (y : Bool). Called y (window_of s.state.reading) s.state b i out 0 after r) (sym u) C; lines = refl }

pub in_end : (q : Bool) (rd : Reading) (b : List ℕ) (w₀ : Walk) (x : Sent) (i : ℕ) → In q rd b w₀ x.state i → length b ≤ i → x.quiet ≡ q → x.written.taken ≡ true → Walked q rd b w₀ x
in_end q rd b w₀ x i I h u t =
    record {
      told = u;
      reached = I.reached;
      good = t;
      calls = record { texts = I.since.texts; rest = λ {qs} {ts} {w'} c. I.since.rest (next b i h c) };
      bytes = omega (arith, I.bytes, I.inside);
    }

-- ---- over the blocks

-- from the fresh state on, by one reading
pub record SoFar (q : Bool) (rd : Reading) (s : Sent) (v : Brought) : Type 0 where
  pub told : s.quiet ≡ q
  pub total : v.total ≡ s.state.offset + s.state.seen
  pub pieces : List (List ℕ)
  pub over : Over q (window_of rd) pieces (fresh_of rd) s.state
  pub reached : Reached (window_of rd) rd s.state
  pub good : s.written.taken ≡ true

pub so-far-start : (s : Sent) (v : Brought) → Fresh s → v.total ≡ 0 → SoFar s.quiet s.state.reading s v
so-far-start s v f z = record {
  told = refl;
  total = z ∙ ap (λ (w : Walk). w.offset + w.seen) (sym f.state);
  pieces = [];
  over = rw f.state (record { texts = []; rest = λ c. c });
  reached = rw f.state start;
  good = f.good;
}

over-again : (q : Bool) (rd : Reading) (ps qs : List (List ℕ)) (w₀ w w' : Walk) → Over q (window_of rd) ps w₀ w → Over q (window_of rd) qs w w' → Over q (window_of rd) (ps ++ qs) w₀ w'
over-again q rd ps qs w₀ w w' F G =
    record {
      texts = F.texts ++ G.texts;
      rest = λ {qs = rs} {ts} {w' = x} c. rw (append_assoc ps qs rs, append_assoc F.texts G.texts ts) (F.rest (G.rest c));
    }

-- one read more: it brought nothing, or its bytes were walked to their end, or they were not
module _ (q : Bool) (rd : Reading) (s : Sent) (v u : Brought) (buf : List ℕ) (n : ℕ) (R : SoFar q rd s v) (B : Reads v (length buf) u) (e : n ≡ bytes_of u) where
  pub so-far-silent : 0 < length buf → n ≡ 0 → Ended q rd (record { sent = s; brought = u; whole = true })
  so-far-silent l z = record {
    told = R.told;
    reached = R.reached;
    pieces = R.pieces;
    last = s.state;
    over = R.over;
    all = λ _. (
      refl,
      R.good,
      record {
        silent = record { asked = omega (arith, B.room); none = sym e ∙ z };
        total = omega (arith, B.total, R.total, e, (reached-sane R.reached).bytes);
      },
    );
    piece = [];
    short = λ f. absurd (false≢true (sym f));
  }

  -- what was sent, quiet or not and by the reading as asked at the start
  as-asked : (r : Result Sent Sent) → Behind s.quiet s.state.reading (take n buf) s.state r → Behind q rd (take n buf) s.state r
  as-asked r =
      subst (λ (x : Bool × Reading). Behind x.0 x.1 (take n buf) s.state r) (λ i. (R.told i, reached-reading R.reached i))

  module _ (t : Sent) (D : Walked s.quiet s.state.reading (take n buf) s.state t) where
    walked : t.state.offset + t.state.seen ≡ s.state.offset + s.state.seen + n
    walked = omega (arith, D.bytes, length-take-le n buf (omega (arith, B.fits, e)))

    pub so-far-went : (n ≡ 0 → ⊥) → s.state.offset + s.state.seen < t.state.offset + t.state.seen
    so-far-went f = omega (arith, walked, f)

    pub so-far-on : SoFar q rd t u
    so-far-on =
        let E : Walked q rd (take n buf) s.state t = as-asked (Ok t) D in
        record {
          told = E.told;
          total = omega (arith, B.total, R.total, walked, e, (reached-sane E.reached).bytes);
          pieces = R.pieces ++ (take n buf ∷ []);
          over = over-again q rd R.pieces (take n buf ∷ []) (fresh_of rd) s.state t.state R.over E.calls;
          reached = E.reached;
          good = E.good;
        }

  pub so-far-short : (t : Sent) → Short s.quiet s.state.reading (take n buf) s.state t → Ended q rd (record { sent = t; brought = u; whole = false })
  so-far-short t D =
      let E : Short q rd (take n buf) s.state t = as-asked (Err t) D in
      record {
        told = E.told;
        reached = E.reached;
        pieces = R.pieces;
        last = s.state;
        over = R.over;
        all = λ e. absurd (false≢true e);
        piece = take n buf;
        short = λ _. E;
      }

-- ---- the closing lines

by_whole : {A : Type 0} (b : Bool) → (b ≡ true → A) → (b ≡ false → A) → A
by_whole true f g = f refl
by_whole false f g = g refl

pub closes : (q : Bool) (rd : Reading) (t : Run) (text : List ℕ) → Ended q rd t → t.sent.written.taken ≡ true
    → text ≡ closing_of t.sent.state.offset t.sent.state.seen t.sent.state.frames t.sent.state.accepted → Closes t.sent t.brought text
closes q rd t text E f e = record {
  good = f;
  done =
      by_whole t.whole (λ w. inl (E.all w).2)
      (λ w.
      let S = E.short w in
      ⊎_elim (λ y. absurd (false≢true (sym y ∙ f))) (λ y. inr (record { block = E.piece; place = S.answer.from; answer = y })) S.why);
  lines = e;
}
