-- Demand 3 of the reader's own answer, over runs of steps from the fresh state, cut anywhere; a state that steps reach is never refused with 30; and one walk
-- keeps one reading.
-- Assumes nothing.
use Prim.Native.Nat.{ℕ, zero, suc, ◌<◌, ◌+◌, ◌-◌, ◌^◌}
use mathlib.Core.Path.{◌≡◌, refl, ap, ◌∙◌}
use mathlib.Core.Bool.{Bool, true, false, cond}
use mathlib.Core.List.{List, [], ◌∷◌, ◌++◌}
use mathlib.Core.Logic.{⊎_elim}
use native.Mathlib.Omega.{arith}
use borrow.Author.Tests.{ltb-true}
use lib.Dec.{ltb}
use lib.ListN.{length, take, drop, length-append, length-map}
use Rattle.format.specs.declared.Reading.{Reading}
use Rattle.reader.specs.Window.{window_of, Window}
use Rattle.laws.proofs.Answers.{keeps, enough}
use Rattle.walk.specs.declared.Walk.{Walk}
use Rattle.walk.specs.declared.Stepped.{Stepped}
use Rattle.walk.specs.declared.Answer.TheVariants.{Refused}
use Rattle.walk.specs.Walk.{frame_size, frame_of, fresh_of, sound_of, countable, put, judge_of, more_of, refused_of, moved_by, moved_of, step_of, done_of, own_step, Lawful}
use Rattle.walk.specs.Frames.{Entry, Walked, walk_of, joined, pad, run_by, run, run_of, ran_of}
use Rattle.walk.proofs.Cases.{step-33}
use Rattle.demand.specs.Promises.{Overwritten, Demand3, Reached, start, next}
use Rattle.demand.proofs.Steps.{Holds, holds-sound, step-more, step-done, holds_more, holds-past}
use Rattle.demand.proofs.Walks.{whole?, summing, tail-short}
use Rattle.demand.proofs.Cut.{cut}
use Rattle.demand.proofs.Overwriting.{again, overwriting, each-frame, other-frames, untouched}

module _ (win : List ℕ → Window) (laws : Lawful win) where
  pub fresh_holds : (rd : Reading) → Holds (fresh_of rd) []
  unfolding pad
  fresh_holds rd = record { seen = refl; held = refl; short = omega arith; two = omega arith; counted = omega arith }

  -- wherever a recording is cut, the steps over its pieces give its walk
  pub cutting : (rd : Reading) (ps : List (List ℕ)) → length (joined ps) < 2 ^ 64 → run_of win rd ps ≡ ran_of (fresh_of rd) (joined ps) (walk_of win (joined ps))
  cutting rd ps h =
      cut win laws (joined ps) h (suc (length ps + length (joined ps))) (length (joined ps)) (fresh_of rd) [] ps (fresh_holds rd) refl
      (omega arith) (omega arith) (omega arith)

  -- ---- demand 3

  pub demand-3 : (rd : Reading) (ps qs : List (List ℕ)) → length (joined ps) < 2 ^ 64 → Overwritten win (joined ps) (joined qs) → Demand3 win rd ps qs
  demand-3 rd ps qs h O =
      let a : run_of win rd ps ≡ ran_of (fresh_of rd) (joined ps) (walk_of win (joined ps)) = cutting rd ps h in
      let b : run_of win rd qs ≡ ran_of (fresh_of rd) (joined qs) (walk_of win (joined qs)) = cutting rd qs (omega (arith, O.long)) in
      let c = overwriting win (joined ps) (joined qs) O in
      let f = each-frame win (joined ps) (joined qs) O in
      record {
        used = rw b;
        frames = rw b;
        short = rw b (tail-short win (joined qs));
        as_many = rw (a, b, c) (length-map (walk_of win (joined ps)).entries (again win (joined qs)));
        placed = λ j. rw (a, b) (ap (λ (e : Entry). e.at) (f j), ap (λ (e : Entry). e.size) (f j));
        answered = λ j. rw (a, b) (ap (λ (e : Entry). e.what) (f j));
        other = λ j same.
            rw (a, b) (other-frames win (joined ps) (joined qs) O j (untouched win (joined ps) (joined qs) O.long j (rw a at same)));
        tail = rw (a, b) (ap (λ (r : Walked). r.tail) c, ap (λ (r : Walked). r.left) c);
        sum = rw b (summing win (joined qs));
        counts = rw b (omega arith, omega arith);
      }

  -- ---- a state that steps reach holds some bytes of a frame, and so is never refused with 30

  holds-next : (w : Walk) (q p : List ℕ) → Holds w q
      → (x : List ℕ) × Holds (step_of win w p).state x × ((step_of win w p).answer ≡ Refused 30 → ⊥)
  unfolding done_of
  holds-next w q p H = go (countable w.offset w.seen (length p)) refl
    where
      go : (b : Bool) → countable w.offset w.seen (length p) ≡ b
          → (x : List ℕ) × Holds (step_of win w p).state x × ((step_of win w p).answer ≡ Refused 30 → ⊥)
      go false e =
          let s = step-33 win w p (holds-sound win laws w q H) e in
          (q, rw (← s) H, rw (← s) (λ a. let z : ◌≡◌ {A = ℕ} 33 30 = cc in omega arith))
      go true e =
          let r : w.offset + length (q ++ p) < 2 ^ 64 =
          omega (arith, H.seen, length-append q p, ltb-true (w.offset + w.seen + length p) (2 ^ 64) e) in
          ⊎_elim
          (λ h.
          let s = step-done win laws w q H p r h in
          let v = frame_of win (take (frame_size (q ++ p)) (q ++ p)) in
          ([], rw s (holds-past win laws w q H (frame_size (q ++ p)) v (omega arith)), rw s (λ a. let z : ◌≡◌ {A = ℕ} 0 1 = cc in omega arith)))
          (λ h.
          let s = step-more win laws w q H p r h in
          (q ++ p, rw s (holds_more win laws w q H p h), rw s (λ a. let z : ◌≡◌ {A = ℕ} 0 1 = cc in omega arith)))
          (whole? (q ++ p))

  reached-holds : {rd : Reading} {w : Walk} → Reached win rd w → (q : List ℕ) × Holds w q
  reached-holds {rd} start = ([], fresh_holds rd)
  reached-holds (next {w = w} p r) = let h = reached-holds r in let n = holds-next w h.0 p h.1 in (n.0, n.1)

  never-30 : (rd : Reading) (w : Walk) (p : List ℕ) → Reached win rd w → (step_of win w p).answer ≡ Refused 30 → ⊥
  never-30 rd w p r = let h = reached-holds r in (holds-next w h.0 p h.1).2

-- ---- one walk keeps one reading: no step changes it

step_keeps : (win : List ℕ → Window) (w : Walk) (p : List ℕ) → (step_of win w p).state.reading ≡ w.reading
unfolding step_of moved_of moved_by done_of
step_keeps win w p =
    let h = put w.held w.seen p in
    let m = more_of w h (length p) in
    let f = done_of w (frame_size h - w.seen) (frame_size h) (judge_of win h (frame_size h)) in
    go (sound_of w) (countable w.offset w.seen (length p)) (ltb (w.seen + length p) (frame_size h)) m f refl refl
  where
    go : (a b c : Bool) (m f : Stepped) → m.state.reading ≡ w.reading → f.state.reading ≡ w.reading
        → (cond a (cond b (cond c m f) (refused_of w 33)) (refused_of w 30)).state.reading ≡ w.reading
    go true true true m f x y = x
    go true true false m f x y = y
    go true false c m f x y = refl
    go false b c m f x y = refl

pub reached-reading : {win : List ℕ → Window} {rd : Reading} {w : Walk} → Reached win rd w → w.reading ≡ rd
reached-reading start = refl
reached-reading {win} (next {w = w} p r) = step_keeps win w p ∙ reached-reading r

-- ---- at the reader's own answer, by any reading

pub lawful : (rd : Reading) → Lawful (window_of rd)
lawful rd = record { appended = keeps rd; full = enough rd }

pub walk-demand-3 : (rd : Reading) (ps qs : List (List ℕ)) → length (joined ps) < 2 ^ 64 → Overwritten (window_of rd) (joined ps) (joined qs)
    → Demand3 (window_of rd) rd ps qs
walk-demand-3 rd = demand-3 (window_of rd) (lawful rd) rd

pub walk-never-30 : (rd : Reading) (w : Walk) (p : List ℕ) → Reached (window_of rd) rd w → (step_of (window_of rd) w p).answer ≡ Refused 30 → ⊥
walk-never-30 rd = never-30 (window_of rd) (lawful rd) rd

own-run : (rd : Reading) (k : ℕ) (w : Walk) (ps : List (List ℕ)) → w.reading ≡ rd → run_by own_step k w ps ≡ run (window_of rd) k w ps
unfolding run_by
own-run rd zero w ps e = refl
own-run rd (suc k) w [] e = refl
own-run rd (suc k) w (p ∷ ps) e =
    let s : own_step w p ≡ step_of (window_of rd) w p = ap (λ r. step_of (window_of r) w p) e in
    let q = step_keeps (window_of rd) w p ∙ e in
    rw (s, own-run rd k (step_of (window_of rd) w p).state (drop (step_of (window_of rd) w p).used p ∷ ps) q, own-run rd k (step_of (window_of rd) w p).state ps q)

-- the steps that the code takes, each by the reading in its state, run as steps by the one reading that the walk began with
pub walk-one-reading : (rd : Reading) (k : ℕ) (ps : List (List ℕ)) → run_by own_step k (fresh_of rd) ps ≡ run (window_of rd) k (fresh_of rd) ps
walk-one-reading rd k ps = own-run rd k (fresh_of rd) ps refl
