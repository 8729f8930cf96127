-- Overwriting bytes in the bodies of complete frames: the walk keeps every frame's offset and size and the tail, each frame has the answer of the
-- frame rule for the bytes that it has now, and a frame that was left alone its old answer. No law of the window's answer is needed.
-- Assumes nothing.
use Prim.Native.Nat.{ℕ, zero, suc, ◌≤◌, ◌<◌, ◌+◌}
use mathlib.Core.Path.{◌≡◌, refl, ap, sym, ◌∙◌}
use mathlib.Core.List.{List, map}
use mathlib.Core.Logic.{⊎_elim}
use native.Mathlib.Omega.{arith}
use lib.ListN.{length, take, drop, get_or, length-drop, length-take, get_or-map}
use lib.Seq.{get_or-drop, get_or-take, ext_get_or}
use Rattle.reader.specs.Window.{Window}
use Rattle.walk.specs.Walk.{frame_size, frame_of}
use Rattle.walk.specs.Frames.{Entry, Walked, walk_at, walk_of, nothing}
use Rattle.demand.specs.Promises.{Inside, Overwritten}
use Rattle.demand.proofs.Walks.{walk-zero, walk-tail, walk-frame, whole?}

module _ (win : List ℕ → Window) where
  -- the same frame, answered for the bytes that s has there
  abbrev pub again : List ℕ → Entry → Entry
  again s e = record { at = e.at; size = e.size; what = frame_of win (take e.size (drop e.at s)) }

  abbrev pub redo : List ℕ → Walked → Walked
  redo t r = record { entries = map (again t) r.entries; tail = r.tail; left = r.left }

  -- the frame of number j, and its bytes in t
  abbrev pub frame_no : List ℕ → ℕ → Entry
  frame_no s j = get_or (walk_of win s).entries j (nothing win)

  abbrev pub bytes_no : List ℕ → ℕ → List ℕ → List ℕ
  bytes_no s j t = take (frame_no s j).size (drop (frame_no s j).at t)

  -- the bodies of the frames from o on lie past o's two length bytes
  inside_past : (k : ℕ) (s : List ℕ) (o i : ℕ) → Inside (walk_at win k s o).entries i → o + 2 ≤ i
  inside_past zero s o i x = absurd (rw (walk-zero win s o) at x)
  inside_past (suc k) s o i x =
      ⊎_elim
      (λ t. ⊎_elim (λ y. y.0) (λ y. omega (arith, inside_past k s (o + frame_size (drop o s)) i y)) (rw (walk-frame win k s o t) at x))
      (λ t. absurd (rw (walk-tail win (suc k) s o t) at x))
      (whole? (drop o s))

  -- s and t agree from o on outside the bodies of s's frames
  abbrev Agree : ℕ → List ℕ → List ℕ → ℕ → Type 0
  Agree k s t o = (i : ℕ) → o ≤ i → (Inside (walk_at win k s o).entries i → ⊥) → get_or t i 0 ≡ get_or s i 0

  -- so the size that stands at o is the same
  same_size : (k : ℕ) (s t : List ℕ) (o : ℕ) → Agree k s t o → frame_size (drop o t) ≡ frame_size (drop o s)
  same_size k s t o a =
      omega (
        arith,
        get_or-drop o t 0 0,
        get_or-drop o s 0 0,
        get_or-drop o t 1 0,
        get_or-drop o s 1 0,
        a (o + 0) (omega arith) (λ x. omega (arith, inside_past k s o (o + 0) x)),
        a (o + 1) (omega arith) (λ x. omega (arith, inside_past k s o (o + 1) x)),
      )

  over-at : (k : ℕ) (s t : List ℕ) (o : ℕ) → length t ≡ length s → Agree k s t o → walk_at win k t o ≡ redo t (walk_at win k s o)
  over-at zero s t o l a =
      let d : length (drop o t) ≡ length (drop o s) = omega (arith, length-drop o s, length-drop o t) in
      rw (walk-zero win t o, walk-zero win s o, d)
  over-at (suc k) s t o l a =
      let z = same_size (suc k) s t o a in
      let d : length (drop o t) ≡ length (drop o s) = omega (arith, length-drop o s, length-drop o t) in
      ⊎_elim
      (λ h.
      let r : Agree k s t (o + frame_size (drop o s)) =
      λ i b n. a i (omega arith) (λ x. ⊎_elim (λ y. omega (arith, y.1)) n (rw (walk-frame win k s o h) at x)) in
      rw (walk-frame win k s o h, walk-frame win k t o (omega arith), z, over-at k s t (o + frame_size (drop o s)) l r))
      (λ h. rw (walk-tail win (suc k) s o h, walk-tail win (suc k) t o (omega arith), d))
      (whole? (drop o s))

  -- the walk of t has the frames of s, each with the answer of the frame rule for the bytes that t has there, and the same tail
  pub overwriting : (s t : List ℕ) → Overwritten win s t → walk_of win t ≡ redo t (walk_of win s)
  overwriting s t O = rw O.long (over-at (length s) s t 0 O.long (λ i h n. O.kept i n))

  -- an overwritten frame has one answer, at its old offset: that of the frame rule for its new bytes
  pub each-frame : (s t : List ℕ) → Overwritten win s t → (j : ℕ)
      → frame_no t j ≡ record { at = (frame_no s j).at; size = (frame_no s j).size; what = frame_of win (bytes_no s j t) }
  each-frame s t O j =
      ap (λ (r : Walked). get_or r.entries j (nothing win)) (overwriting s t O) ∙ get_or-map (again t) (walk_of win s).entries j (nothing win)

  -- a frame whose bytes are left alone has its old answer at its old offset
  pub other-frames : (s t : List ℕ) → Overwritten win s t → (j : ℕ) → bytes_no s j t ≡ bytes_no s j s → frame_no t j ≡ frame_no s j
  other-frames s t O j e =
      each-frame s t O j
      ∙ ap (λ (b : List ℕ). record { at = (frame_no s j).at; size = (frame_no s j).size; what = frame_of win b }) e
      ∙ sym (each-frame s s (record { long = refl; kept = λ i n. refl }) j)

  -- such a frame is one at whose places s and t agree
  pub untouched : (s t : List ℕ) → length t ≡ length s → (j : ℕ)
      → ((i : ℕ) → (frame_no s j).at ≤ i → i < (frame_no s j).at + (frame_no s j).size → get_or t i 0 ≡ get_or s i 0) → bytes_no s j t ≡ bytes_no s j s
  untouched s t l j a =
      let o = (frame_no s j).at in
      let n = (frame_no s j).size in
      ext_get_or 0 (take n (drop o t)) (take n (drop o s))
      (simp (length-take, length-drop, l))
      (λ i h.
      let k : i < n = omega (arith, length-take n (drop o t)) in
      rw (get_or-take n (drop o t) i 0 k, get_or-take n (drop o s) i 0 k, get_or-drop o t i 0, get_or-drop o s i 0)
      (a (o + i) (omega arith) (omega arith)))
