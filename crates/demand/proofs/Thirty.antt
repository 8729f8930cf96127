-- A state is refused with 30 exactly where the scope's words say so.
-- Assumes nothing.
use Prim.Native.Nat.{ℕ, zero, suc, ◌≤◌, ◌<◌, ◌+◌, ◌-◌, ◌*◌}
use mathlib.Core.Path.{◌≡◌, refl, sym, ◌∙◌}
use mathlib.Core.Bool.{Bool, true, false, ◌&&◌, false≢true}
use mathlib.Core.List.{List, [], ◌∷◌}
use mathlib.Core.Logic.{◌↔◌, ⊎_elim}
use native.Mathlib.Omega.{arith}
use borrow.Author.Tests.{eqb-true, eqb-false}
use lib.ListN.{length, drop, get_or, length-drop}
use lib.Seq.{get_or-drop}
use lib.Dec.{eqb}
use Rattle.format.proofs.Tests.{and_split, le-or-lt}
use Rattle.walk.specs.declared.Walk.{Walk}
use Rattle.walk.specs.Walk.{frame_size, zeros, sound_of}
use Rattle.walk.proofs.Cases.{sound-says, sound-rest}
use Rattle.demand.specs.Promises.{Thirty, past, unclean, crowded, miscounted}

-- where the test for zeros fails, a byte is not zero; where it passes, each is
not-zero : (s : List ℕ) → zeros s ≡ false → (i : ℕ) × (i < length s) × (get_or s i 0 ≡ 0 → ⊥)
unfolding zeros
not-zero [] e = absurd (false≢true (sym e))
not-zero (x ∷ s) e = go (eqb x 0) refl e (not-zero s)
  where
    go : (b : Bool) → eqb x 0 ≡ b → (b && zeros s) ≡ false → (zeros s ≡ false → (i : ℕ) × (i < length s) × (get_or s i 0 ≡ 0 → ⊥))
        → (i : ℕ) × (i < length (x ∷ s)) × (get_or (x ∷ s) i 0 ≡ 0 → ⊥)
    go true q e rest = let r = rest e in (suc r.0, omega (arith, r.1), r.2)
    go false q e rest = (0, omega arith, eqb-false x 0 q)

all-zero : (s : List ℕ) (i : ℕ) → zeros s ≡ true → i < length s → get_or s i 0 ≡ 0
unfolding zeros
all-zero [] i e h = absurd (omega arith)
all-zero (x ∷ s) zero e h = eqb-true x 0 (and_split (eqb x 0) (zeros s) e).0
all-zero (x ∷ s) (suc i) e h = all-zero s i (and_split (eqb x 0) (zeros s) e).1 (omega arith)

refused-thirty : (w : Walk) → sound_of w ≡ false → Thirty w
refused-thirty w e =
    ⊎_elim (λ a. past (omega arith) a)
    (λ a. ⊎_elim (λ b. ⊎_elim (λ c. dirty a b c) miscounted (le-or-lt w.accepted w.frames)) crowded (le-or-lt (2 * w.frames) w.offset))
    (le-or-lt (frame_size w.held) w.seen)
  where
    dirty : w.seen < frame_size w.held → 2 * w.frames ≤ w.offset → w.accepted ≤ w.frames → Thirty w
    dirty a b c =
        let r = not-zero (drop w.seen w.held) (sym (sound-rest w a b c) ∙ e) in
        unclean (w.seen + r.0) (omega arith) (omega (arith, r.1, length-drop w.seen w.held))
        (λ z. r.2 (get_or-drop w.seen w.held r.0 0 ∙ z))

thirty-refused : (w : Walk) → sound_of w ≡ true → Thirty w → ⊥
thirty-refused w e (past a b) = omega (arith, (sound-says w e).0)
thirty-refused w e (crowded a) = omega (arith, (sound-says w e).1)
thirty-refused w e (miscounted a) = omega (arith, (sound-says w e).2)
thirty-refused w e (unclean i a b c) =
    let j : ℕ = i - w.seen in
    let q : w.seen + j ≡ i = omega arith in
    let d : List ℕ = drop w.seen w.held in
    let z : get_or d j 0 ≡ 0 = all-zero d j (sound-says w e).3 (omega (arith, length-drop w.seen w.held)) in
    c (rw q at (sym (get_or-drop w.seen w.held j 0) ∙ z))

pub thirty : (w : Walk) → (sound_of w ≡ false) ↔ Thirty w
thirty w = (refused-thirty w, back (sound_of w) refl)
  where
    back : (b : Bool) → sound_of w ≡ b → Thirty w → sound_of w ≡ false
    back false e t = e
    back true e t = absurd (thirty-refused w e t)
