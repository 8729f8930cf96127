-- Big-endian numbers: the laws of every width.
-- Assumes nothing.
use mathlib.Core.Path.{◌≡◌, refl, ap, ◌∙◌}
use mathlib.Core.List.{List, [], ◌∷◌, ◌++◌}
use Prim.Native.Nat.{ℕ, zero, suc, ◌+◌, ◌*◌, ◌^◌, ◌<◌, ◌≤◌}
use native.Mathlib.Numerals.{add-one}
use native.Mathlib.Nat.{pow-suc, zero-add, add-zero, add-suc, add_assoc, mul-one, mul_assoc}
use native.Mathlib.Omega.{arith}
use lib.ListN.{length, get_or, take, drop, length-drop}
use lib.Seq.{take-suc, take-add, get_or-drop, drop-drop, drop-cons}
use Rattle.format.specs.Layout.{be_from, be, part}

pub be-snoc : (v : ℕ) (bs : List ℕ) (b : ℕ) → be_from v (bs ++ (b ∷ [])) ≡ be_from v bs * 256 + b
be-snoc v [] b = refl
be-snoc v (x ∷ xs) b = be-snoc (v * 256 + x) xs b

-- a part is its first i bytes and its j last ones; a part of one byte more
pub part-split : (s : List ℕ) (at i j : ℕ) → part s at (i + j) ≡ part s at i ++ part s (at + i) j
part-split s at i j = take-add i j (drop at s) ∙ ap (λ l. part s at i ++ take j l) (drop-drop i at s)

pub part-more : (s : List ℕ) (at w : ℕ) → at + w < length s → part s at (w + 1) ≡ part s at w ++ (get_or s (at + w) 0 ∷ [])
part-more s at w h =
    let l : w < length (drop at s) = simp length-drop (omega arith) in
    rw (add-one, take-suc (drop at s) w 0, get_or-drop)

pub be-more : (s : List ℕ) (at w : ℕ) → at + w < length s → be (part s at (w + 1)) ≡ be (part s at w) * 256 + get_or s (at + w) 0
be-more s at w h = rw (part-more s at w h, be-snoc)

pub be-one : (s : List ℕ) (at : ℕ) → at < length s → be (part s at 1) ≡ get_or s at 0
be-one s at h = rw (drop-cons s at 0) (zero-add _)

-- a number of i + j bytes is those of its i first and its j last bytes
pub be-split : (s : List ℕ) (at i j : ℕ) → at + i + j ≤ length s → be (part s at (i + j)) ≡ be (part s at i) * 256 ^ j + be (part s (at + i) j)
be-split s at i zero h = rw (add-zero i, mul-one, add-zero)
be-split s at i (suc j) h =
    let e : be (part s at (i + j)) ≡ be (part s at i) * 256 ^ j + be (part s (at + i) j) = be-split s at i j (omega arith) in
    let l : be (part s at (i + j + 1)) ≡ be (part s at (i + j)) * 256 + get_or s (at + (i + j)) 0 = be-more s at (i + j) (omega arith) in
    let r : be (part s (at + i) (j + 1)) ≡ be (part s (at + i) j) * 256 + get_or s (at + i + j) 0 = be-more s (at + i) j (omega arith) in
    rw (add-suc, ← add-one (i + j), l, ← add-one j, r, add-one j, pow-suc, ← mul_assoc, ← add_assoc at i j) (omega arith)

pub be-two : (s : List ℕ) (at : ℕ) → at + 2 ≤ length s → be (part s at 2) ≡ get_or s at 0 * 256 + get_or s (at + 1) 0
be-two s at h = rw (be-more s at 1 (omega arith), be-one s at (omega arith))

pub be-four : (s : List ℕ) (at : ℕ) → at + 4 ≤ length s
    → be (part s at 4) ≡ ((get_or s at 0 * 256 + get_or s (at + 1) 0) * 256 + get_or s (at + 2) 0) * 256 + get_or s (at + 3) 0
be-four s at h = rw (be-more s at 3 (omega arith), be-more s at 2 (omega arith), be-more s at 1 (omega arith), be-one s at (omega arith))

-- the bytes of a window, and that a number of w of them is below 256 ^ w
abbrev pub Bytes : List ℕ → Type 0
Bytes s = (i : ℕ) → get_or s i 0 < 256

pub be-below : (s : List ℕ) (at w : ℕ) → Bytes s → at + w ≤ length s → be (part s at w) < 256 ^ w
be-below s at zero b h = omega arith
be-below s at (suc w) b h =
    let m : be (part s at (w + 1)) ≡ be (part s at w) * 256 + get_or s (at + w) 0 = be-more s at w (omega arith) in
    let l : be (part s at w) < 256 ^ w = be-below s at w b (omega arith) in
    rw (← add-one w, m, add-one w, pow-suc) (omega (arith, b (at + w)))
