-- UTF-8, byte by byte; the search for its first bad sequence; and its short cut: bytes whose number has no high bit set are ASCII, which is well formed.
-- Assumes nothing.
use mathlib.Core.Path.{◌≡◌, refl, ap, sym, ◌∙◌}
use mathlib.Core.List.{List, [], ◌∷◌, ◌++◌}
use mathlib.Core.Bool.{Bool, true, false, cond, ◌&&◌}
use mathlib.Core.Logic.{◌⊎◌, inl, inr}
use Prim.Native.Nat.{ℕ, zero, suc, ◌+◌, ◌*◌, ◌/◌, ◌%◌, ◌^◌, ◌-◌, ◌<◌, ◌≤◌}
use native.Mathlib.Numerals.{add-one, sub-one}
use native.Mathlib.Nat.{zero-add, add-zero, add_assoc}
use native.Mathlib.Omega.{arith}
use lib.Bits.{bit_and, and_block, and_shr}
use lib.Dec.{T, leb, leb→le, lit<}
use lib.ListN.{length, get_or, take, drop}
use lib.Seq.{drop-cons}
use borrow.Author.Tests.{lt-ltb, le-ltb, leb-true, leb-false}
use Rattle.format.specs.Layout.{be, part}
use Rattle.format.specs.Utf8.{Utf, fresh, tail, bad, Lead, row, grammar, lead_in, lead, due, utf_step, utf_run, is_fresh, well_formed, begins_at, bad_from, first_bad}
use Rattle.format.proofs.Tests.{both}
use Rattle.format.proofs.Bytes.{Bytes, part-more, be-more, be-below}

-- a run over two parts, one after the other
pub utf-append : (u : Utf) (xs ys : List ℕ) → utf_run u (xs ++ ys) ≡ utf_run (utf_run u xs) ys
unfolding utf_run
utf-append u [] ys = refl
utf-append u (x ∷ xs) ys = utf-append (utf_step u x) xs ys

utf-more : (u : Utf) (s : List ℕ) (at w : ℕ) → at + w < length s
    → utf_run u (part s at (w + 1)) ≡ utf_step (utf_run u (part s at w)) (get_or s (at + w) 0)
unfolding utf_run
utf-more u s at w h = rw (part-more s at w h, utf-append)

utf-one : (u : Utf) (s : List ℕ) (at : ℕ) → at < length s → utf_run u (part s at 1) ≡ utf_step u (get_or s at 0)
unfolding utf_run
utf-one u s at h = rw (drop-cons s at 0)

pub utf-four : (u : Utf) (s : List ℕ) (at : ℕ) → at + 4 ≤ length s
    → utf_run u (part s at 4)
    ≡ utf_step (utf_step (utf_step (utf_step u (get_or s at 0)) (get_or s (at + 1) 0)) (get_or s (at + 2) 0)) (get_or s (at + 3) 0)
utf-four u s at h = rw (utf-more u s at 3 (omega arith), utf-more u s at 2 (omega arith), utf-more u s at 1 (omega arith), utf-one u s at (omega arith))

pub utf-eight : (u : Utf) (s : List ℕ) (at : ℕ) → at + 8 ≤ length s
    → utf_run u (part s at 8)
    ≡ utf_step (utf_step (utf_step (utf_step (utf_step (utf_step (utf_step (utf_step u (get_or s at 0)) (get_or s (at + 1) 0)) (get_or s (at + 2) 0)) (get_or s (at + 3) 0))
    (get_or s (at + 4) 0)) (get_or s (at + 5) 0)) (get_or s (at + 6) 0)) (get_or s (at + 7) 0)
utf-eight u s at h =
    rw (utf-more u s at 7 (omega arith), utf-more u s at 6 (omega arith), utf-more u s at 5 (omega arith), utf-more u s at 4 (omega arith))
    (ap (λ v. utf_step (utf_step (utf_step (utf_step v (get_or s (at + 4) 0)) (get_or s (at + 5) 0)) (get_or s (at + 6) 0)) (get_or s (at + 7) 0)) (utf-four u s at (omega arith)))

-- a first byte that is not below the bounds of the first k rows of the grammar, of which `lo` is the last
abbrev bounded : List Lead → ℕ → Bool
bounded [] lo = true
bounded (r ∷ rs) lo = leb r.below lo && bounded rs lo

from_row : (k lo : ℕ) (rs : List Lead) (b : ℕ) → T (bounded (take k rs) lo) → lo ≤ b → lead_in rs b ≡ lead_in (drop k rs) b
from_row zero lo rs b t h = refl
from_row (suc k) lo [] b t h = refl
from_row (suc k) lo (r ∷ rs) b t h =
    let q = both (leb r.below lo) (bounded (take k rs) lo) t in
    let l : r.below ≤ lo = leb→le r.below lo q.0 in
    rw (le-ltb b r.below (omega arith)) (from_row k lo rs b q.1 h)

-- a first byte in row k
pub in_row : (k lo hi : ℕ) (u : Utf) (rs : List Lead) (b : ℕ) → T (bounded (take k grammar) lo) → drop k grammar ≡ row hi u ∷ rs → lo ≤ b → b < hi → u ≡ lead b
in_row k lo hi u rs b t e l h = sym (from_row k lo grammar b t l ∙ ap (λ rs. lead_in rs b) e ∙ rw (lt-ltb b hi h))

pub in-no-row : (b : ℕ) → 0xf5 ≤ b → bad ≡ lead b
in-no-row b h = sym (from_row 10 0xf5 grammar b tt h)

-- the steps inside a sequence
pub tail_step : {n : ℕ} → (n ≡ 0 → ⊥) → (lo hi b : ℕ) → utf_step (tail n lo hi) b ≡ cond (leb lo b) (cond (leb b hi) (due (n - 1)) bad) bad
unfolding utf_step
tail_step {n = zero} h lo hi b = absurd (h refl)
tail_step {n = suc n} h lo hi b = rw sub-one

pub due-tail : (n : ℕ) → (n ≡ 0 → ⊥) → due n ≡ tail n 0x80 0xbf
due-tail zero h = absurd (h refl)
due-tail (suc n) h = refl

-- the search for the first bad sequence, with places counted from k bytes further in front
begins-shift : (k : ℕ) (u : Utf) (from i : ℕ) → begins_at u (k + from) (k + i) ≡ k + begins_at u from i
begins-shift k fresh from i = refl
begins-shift k (tail n lo hi) from i = refl
begins-shift k bad from i = refl

bad-shift : (k : ℕ) (u : Utf) (from i : ℕ) (bs : List ℕ) → bad_from u (k + from) (k + i) bs ≡ k + bad_from u from i bs
unfolding bad_from
bad-shift k u from i [] = begins-shift k u from i
bad-shift k u from i (b ∷ bs) = rw (begins-shift k u from i, add_assoc k i 1) (bad-shift k (utf_step u b) (begins_at u from i) (i + 1) bs)

-- over a text of w bytes, from the place i on: at first, one byte on, and behind the last
pub bad-start : (s : List ℕ) (at w : ℕ) → bad_from fresh at at (part s at (at + w - at)) ≡ at + first_bad (part s at w)
unfolding first_bad
bad-start s at w =
    let n : at + w - at ≡ w = omega arith in
    let z : bad_from fresh (at + 0) (at + 0) (part s at w) ≡ at + bad_from fresh 0 0 (part s at w) = bad-shift at fresh 0 0 (part s at w) in
    rw n (rw add-zero at z)

pub bad_more : (u : Utf) (from i : ℕ) (s : List ℕ) (end : ℕ) → i < end → end ≤ length s
    → bad_from u from i (part s i (end - i)) ≡ bad_from (utf_step u (get_or s i 0)) (begins_at u from i) (i + 1) (part s (i + 1) (end - (i + 1)))
unfolding bad_from
bad_more u from i s end l h =
    let n : end - i ≡ suc (end - (i + 1)) = omega arith in
    let k : i < length s = omega arith in
    rw (n, drop-cons s i 0, ← add-one i)

pub bad-end : (u : Utf) (from i : ℕ) (s : List ℕ) (end : ℕ) → end ≤ i → bad_from u from i (part s i (end - i)) ≡ begins_at u from i
unfolding bad_from
bad-end u from i s end h =
    let n : end - i ≡ 0 = omega arith in
    rw n

-- w bytes of which each has its high bit set and no other: the mask that the short cut tests
abbrev pub highs : ℕ → ℕ
highs zero = 0
highs (suc w) = highs w * 256 + 128

pub no-high : (b : ℕ) → b < 256 → bit_and b 128 ≡ 0 → b < 128
no-high b h e = go (leb 128 b) refl
  where
    go : (t : Bool) → leb 128 b ≡ t → b < 128
    go false q = leb-false 128 b q
    go true q =
        let l : 128 ≤ b = leb-true 128 b q in
        let d : b / 128 ≡ 1 = omega arith in
        let z : bit_and b 128 / 2 ^ 7 ≡ 1 = and_shr b 128 7 ∙ ap (λ n. bit_and n 1) d in
        let y : bit_and b 128 / 2 ^ 7 ≡ 0 = ap (λ n. n / 2 ^ 7) e in
        absurd (omega arith)

ascii_run : (s : List ℕ) (at w : ℕ) → Bytes s → at + w ≤ length s → bit_and (be (part s at w)) (highs w) ≡ 0 → utf_run fresh (part s at w) ≡ fresh
unfolding utf_run utf_step
ascii_run s at zero b h e = refl
ascii_run s at (suc w) b h e =
    let x : ℕ = get_or s (at + w) 0 in
    let m : be (part s at (w + 1)) ≡ be (part s at w) * 256 + x = be-more s at w (omega arith) in
    let k : bit_and (be (part s at w) * 2 ^ 8 + x) (highs w * 2 ^ 8 + 128) ≡ bit_and (be (part s at w)) (highs w) * 2 ^ 8 + bit_and x 128 =
    and_block 8 (be (part s at w)) (highs w) x 128 (b (at + w)) (lit< tt) in
    let z : bit_and (be (part s at w)) (highs w) * 256 + bit_and x 128 ≡ 0 = sym k ∙ ap (λ n. bit_and n (highs (suc w))) (sym m ∙ ap (λ n. be (part s at n)) (add-one w)) ∙ e in
    let l : x < 128 = no-high x (b (at + w)) (omega arith) in
    rw (← add-one w, utf-more fresh s at w (omega arith), ascii_run s at w b (omega arith) (omega arith)) (rw (lt-ltb x 128 l))

-- the short cut, as the leaves of 4 and 8 bytes take it
pub ascii : (w : ℕ) (s : List ℕ) (at : ℕ) {v : ℕ} → Bytes s → at + w ≤ length s → v ≡ be (part s at w) → bit_and v (highs w) ≡ 0
    → well_formed (part s at w) ≡ true
unfolding well_formed
ascii w s at b h e z = ap is_fresh (ascii_run s at w b h (ap (λ n. bit_and n (highs w)) (sym e) ∙ z))

-- of a number of four bytes, the high bits of all eight are those of the four
pub ascii-text : (w : ℕ) (s : List ℕ) (at : ℕ) {v : ℕ} → (w ≡ 4) ⊎ (w ≡ 8) → Bytes s → at + w ≤ length s → v ≡ be (part s at w)
    → bit_and v 0x8080808080808080 ≡ 0 → well_formed (part s at w) ≡ true
ascii-text w s at {v} (inl q) b h e z =
    let l : at + 4 ≤ length s = rw q at h in
    let m : v ≡ be (part s at 4) = rw q at e in
    let k : v < 256 ^ 4 = rw m (be-below s at 4 b l) in
    let x : bit_and (0 * 2 ^ 32 + v) (highs 4 * 2 ^ 32 + highs 4) ≡ bit_and 0 (highs 4) * 2 ^ 32 + bit_and v (highs 4) = and_block 32 0 (highs 4) v (highs 4) k (lit< tt) in
    let y : bit_and 0 (highs 4) * 2 ^ 32 + bit_and v (highs 4) ≡ 0 = sym x ∙ ap (λ n. bit_and n (highs 8)) (zero-add v) ∙ z in
    rw q (ascii 4 s at b l m (omega arith))
ascii-text w s at (inr q) b h e z = rw q (ascii 8 s at b (rw q at h) (rw q at e) z)

pub even-text : {w : ℕ} → (w ≡ 4) ⊎ (w ≡ 8) → w % 2 ≡ 0
even-text (inl q) = rw q
even-text (inr q) = rw q
