-- Cutting: a run of steps over any pieces of a recording gives the walk of the recording, and the state that stands for its tail.
-- Assumes nothing.
use Prim.Native.Nat.{ℕ, zero, suc, ◌≤◌, ◌<◌, ◌-◌, ◌+◌, ◌^◌}
use mathlib.Core.Path.{◌≡◌, refl, ap, sym, ◌∙◌}
use mathlib.Core.List.{List, [], ◌∷◌, ◌++◌, append_assoc, append-nil}
use mathlib.Core.Logic.{⊎_elim}
use native.Mathlib.Omega.{arith}
use native.Mathlib.Nat.{add-zero}
use lib.ListN.{length, take, drop, length-append, length-drop}
use lib.Seq.{drop-append-le, drop-append-add, drop-drop}
use Rattle.reader.specs.Window.{Window}
use Rattle.walk.specs.declared.Walk.{Walk}
use Rattle.walk.specs.Walk.{frame_size, frame_of, past_of, more_of, done_of, step_of, Lawful, Verdict}
use Rattle.walk.specs.Frames.{Walked, after, walk_at, accepts, all_used, told, run_by, run, joined, pad, ran_of}
use Rattle.demand.proofs.Walks.{walk-tail, walk-frame-as, whole?, short-append}
use Rattle.demand.proofs.Steps.{Holds, step-more, step-done, holds_more, holds-past}

module _ (win : List ℕ → Window) (laws : Lawful win) where
  -- ---- the cases of `run`

  run_more : (k : ℕ) (w : Walk) (p h : List ℕ) (n : ℕ) (ps : List (List ℕ)) → step_of win w p ≡ more_of w h n
      → run win (suc k) w (p ∷ ps) ≡ run win k (more_of w h n).state ps
  unfolding run_by
  run_more k w p h n ps e = rw e

  run-done : (k : ℕ) (w : Walk) (p : List ℕ) (u n : ℕ) (v : Verdict) (ps : List (List ℕ)) → step_of win w p ≡ done_of w u n v
      → run win (suc k) w (p ∷ ps) ≡ told (record { at = w.offset; size = n; what = v }) (run win k (past_of w n v) (drop u p ∷ ps))
  unfolding run_by done_of
  run-done k w p u n v ps e = rw e

  -- what is left of the piece behind the frame's end
  rest-piece : (q p r : List ℕ) (n : ℕ) → length q ≤ n → n ≤ length (q ++ p) → drop n (q ++ p ++ r) ≡ drop (n - length q) p ++ r
  rest-piece q p r n a b =
      let l = length-append q p in
      let e : n ≡ length q + (n - length q) = omega arith in
      drop-append-le n (q ++ p) r b
      ∙ ap (λ (l : List ℕ). l ++ r) (ap (λ (k : ℕ). drop k (q ++ p)) e ∙ drop-append-add q p (n - length q))

  -- the states are equal if their fields are
  walk-path : (a b : Walk) → a.offset ≡ b.offset → a.seen ≡ b.seen → a.held ≡ b.held → a.frames ≡ b.frames → a.accepted ≡ b.accepted
      → a.reading ≡ b.reading → a ≡ b
  walk-path a b p q r s t u = λ i. record { offset = p i; seen = q i; held = r i; frames = s i; accepted = t i; reading = u i }

  ran-told : (w : Walk) (n : ℕ) (v : Verdict) (s : List ℕ) (r : Walked)
      → told (record { at = w.offset; size = n; what = v }) (ran_of (past_of w n v) s r)
      ≡ ran_of w s (after (record { at = w.offset; size = n; what = v }) r)
  unfolding accepts
  ran-told w n v s r =
      ap (λ (x : Walk). record { entries = record { at = w.offset; size = n; what = v } ∷ r.entries; state = x; ended = all_used })
      (walk-path _ _ refl refl refl (omega arith) (omega arith) refl)

  abbrev CutAt : List ℕ → ℕ → Type 0
  CutAt s k =
      (m : ℕ) (w : Walk) (q : List ℕ) (ps : List (List ℕ)) → Holds w q → drop w.offset s ≡ q ++ joined ps
      → w.offset ≤ length s → length s ≤ w.offset + m → length ps + length (joined ps) < k
      → run win k w ps ≡ ran_of w s (walk_at win m s w.offset)

  module _ (s : List ℕ) (total : length s < 2 ^ 64) where
    cut-nil : (k m : ℕ) (w : Walk) (q : List ℕ) → Holds w q → drop w.offset s ≡ q ++ []
        → run win (suc k) w [] ≡ ran_of w s (walk_at win m s w.offset)
    unfolding run_by accepts
    cut-nil k m w q H e =
        let d : drop w.offset s ≡ q = e ∙ append-nil q in
        rw (walk-tail win m s w.offset (rw d H.short))
        (ap (λ (x : Walk). record { entries = []; state = x; ended = all_used })
        (walk-path _ _ refl (H.seen ∙ sym (ap length d)) (H.held ∙ sym (ap (pad 52) d))
        (sym (add-zero w.frames)) (sym (add-zero w.accepted)) refl))

    -- one piece more, whose bytes are p
    module _ (k : ℕ) (IH : CutAt s k) (m : ℕ) (w : Walk) (q p : List ℕ) (ps : List (List ℕ)) (H : Holds w q)
        (e : drop w.offset s ≡ q ++ p ++ joined ps) (o : w.offset ≤ length s) (f : length s ≤ w.offset + m)
        (g : suc (length ps) + length (p ++ joined ps) < suc k) where
      room : w.offset + length (q ++ p) < 2 ^ 64
      room = omega (arith, length-drop w.offset s, ap length e, length-append (q ++ p) (joined ps))

      cut-more : length (q ++ p) < frame_size (q ++ p) → run win (suc k) w (p ∷ ps) ≡ ran_of w s (walk_at win m s w.offset)
      cut-more lt =
          run_more k w p (pad 52 (q ++ p)) (length p) ps (step-more win laws w q H p room lt)
          ∙ IH m (more_of w (pad 52 (q ++ p)) (length p)).state (q ++ p) ps (holds_more win laws w q H p lt) e o f
          (omega (arith, length-append p (joined ps)))

      -- the frame's size, its bytes of this piece, and its answer
      n : ℕ
      n = frame_size (q ++ p)

      u : ℕ
      u = n - length q

      v : Verdict
      v = frame_of win (take n (q ++ p))

      cut-done : frame_size (q ++ p) ≤ length (q ++ p) → run win (suc k) w (p ∷ ps) ≡ ran_of w s (walk_at win m s w.offset)
      unfolding n u v joined
      cut-done le = go m f
        where
          lt : length q < frame_size (q ++ p)
          lt = short-append q p H.short

          all : length s ≡ w.offset + length (q ++ p) + length (joined ps)
          all = omega (arith, length-drop w.offset s, ap length e, length-append (q ++ p) (joined ps))

          rest : drop (w.offset + n) s ≡ drop u p ++ joined ps
          rest = sym (drop-drop n w.offset s) ∙ ap (drop n) e ∙ rest-piece q p (joined ps) n (omega (arith, lt)) le

          fewer : suc (length ps) + length (drop u p ++ joined ps) < k
          fewer = omega (arith, lt, length-append (drop u p) (joined ps), length-append p (joined ps), length-drop u p, length-append q p)

          go : (m : ℕ) → length s ≤ w.offset + m → run win (suc k) w (p ∷ ps) ≡ ran_of w s (walk_at win m s w.offset)
          go zero f = absurd (omega (arith, all))
          go (suc m) f =
              run-done k w p u n v ps (step-done win laws w q H p room le)
              ∙ ap (told (record { at = w.offset; size = n; what = v }))
              (IH m (past_of w n v) [] (drop u p ∷ ps) (holds-past win laws w q H n v (omega arith)) rest
              (omega (arith, all)) (omega (arith, all)) fewer)
              ∙ ran-told w n v s (walk_at win m s (w.offset + n))
              ∙ ap (ran_of w s) (sym (walk-frame-as win m s w.offset (q ++ p) (joined ps) e le))

      cut-cons : run win (suc k) w (p ∷ ps) ≡ ran_of w s (walk_at win m s w.offset)
      cut-cons = ⊎_elim cut-done cut-more (whole? (q ++ p))

    pub cut : (k : ℕ) → CutAt s k
    unfolding joined
    cut zero m w q ps H e o f g = absurd (omega arith)
    cut (suc k) m w q [] H e o f g = cut-nil k m w q H e
    cut (suc k) m w q (p ∷ ps) H e o f g = cut-cons k (cut k) m w q p ps H (e ∙ sym (append_assoc q p (joined ps))) o f g
