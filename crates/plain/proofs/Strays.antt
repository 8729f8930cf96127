-- A stock that a strict reading takes: three tests of its number, and what they say of its bytes. And so no text of a plain body has a stray byte.
-- Assumes nothing.
use Prim.Native.Nat.{ℕ, zero, suc, ◌+◌, ◌*◌, ◌≤◌, ◌<◌}
use mathlib.Core.Path.{◌≡◌, refl, sym, ap, ◌∙◌}
use mathlib.Core.Bool.{Bool, true, false, ◌||◌, ◌&&◌}
use mathlib.Core.List.{List, [], ◌∷◌, ◌++◌}
use native.Mathlib.Numerals.{add-one}
use native.Mathlib.Omega.{arith}
use borrow.Author.Tests.{le-ltb}
use lib.Bits.{bit_and, and_block, and_mask, and_le_l, and_le_r}
use lib.Dec.{T, eqb, eqb→eq, lit<}
use lib.ListN.{length, get_or}
use Rattle.format.specs.Codes.{side}
use Rattle.format.specs.Layout.{Kind, num, time, text, code, subtype, be, part, outside, strays}
use Rattle.format.specs.Strict.{stray_in}
use Rattle.format.proofs.Bytes.{Bytes, part-more, be-more}
use Rattle.format.proofs.Tests.{both}
use Rattle.format.proofs.Text.{no-high}
use Rattle.plain.specs.Plain.{same, light}

-- ---- the bytes of a text

within : (b : ℕ) → 0x20 ≤ b → b ≤ 0x7e → outside b ≡ false
within b l h = rw (le-ltb b 0x20 l, le-ltb 0x7e b h)

strays-more : (bs : List ℕ) (b : ℕ) → strays bs ≡ false → outside b ≡ false → strays (bs ++ (b ∷ [])) ≡ false
unfolding strays
strays-more [] b e f = rw f
strays-more (x ∷ bs) b e f = go (outside x) (λ z. strays-more bs b z f) e
  where
    go : (t : Bool) → (strays bs ≡ false → strays (bs ++ (b ∷ [])) ≡ false) → t || strays bs ≡ false → t || strays (bs ++ (b ∷ [])) ≡ false
    go true rest e = e
    go false rest e = rest e

-- w bytes that are each the byte b: `highs` is that of 128
abbrev each : ℕ → ℕ → ℕ
each b zero = 0
each b (suc w) = each b w * 256 + b

-- the tests of a text of w bytes: no high bit; none with 1 added; each with 96 added
record Tight (s : List ℕ) (at w : ℕ) : Type 0 where
  plain : bit_and (be (part s at w)) (each 128 w) ≡ 0
  under : bit_and (bit_and (be (part s at w)) (each 127 w) + each 1 w) (each 128 w) ≡ 0
  over : bit_and (bit_and (be (part s at w)) (each 127 w) + each 96 w) (each 128 w) ≡ each 128 w

-- what they say of the last byte, and of those before it
record Last (s : List ℕ) (at w : ℕ) : Type 0 where
  front : Tight s at w
  above : 0x20 ≤ get_or s (at + w) 0
  below : get_or s (at + w) 0 ≤ 0x7e

split : (a b x y : ℕ) → x < 256 → y < 256 → bit_and (a * 256 + x) (b * 256 + y) ≡ bit_and a b * 256 + bit_and x y
split a b x y h k = and_block 8 a b x y h k

last : (s : List ℕ) (at w : ℕ) → Bytes s → at + w < length s → Tight s at (suc w) → Last s at w
last s at w b h t =
    let x : ℕ = get_or s (at + w) 0 in
    let v : ℕ = be (part s at w) in
    let l : ℕ = bit_and v (each 127 w) in
    let m : be (part s at (suc w)) ≡ v * 256 + x = ap (λ n. be (part s at n)) (sym (add-one w)) ∙ be-more s at w h in
    let p : bit_and v (each 128 w) * 256 + bit_and x 128 ≡ 0 =
    sym (split v (each 128 w) x 128 (b (at + w)) (lit< tt)) ∙ ap (λ n. bit_and n (each 128 (suc w))) (sym m) ∙ t.plain in
    let k : x < 128 = no-high x (b (at + w)) (omega arith) in
    let y : bit_and x 127 ≡ x = and_mask x 7 ∙ omega arith in
    let z : bit_and (be (part s at (suc w))) (each 127 (suc w)) ≡ l * 256 + x =
    ap (λ n. bit_and n (each 127 (suc w))) m ∙ split v (each 127 w) x 127 (b (at + w)) (lit< tt) ∙ ap (λ n. l * 256 + n) y in
    let i : l * 256 + x + each 1 (suc w) ≡ (l + each 1 w) * 256 + (x + 1) = omega arith in
    let u : bit_and (l + each 1 w) (each 128 w) * 256 + bit_and (x + 1) 128 ≡ 0 =
    sym (split (l + each 1 w) (each 128 w) (x + 1) 128 (omega arith) (lit< tt))
    ∙ ap (λ n. bit_and n (each 128 (suc w))) (sym (ap (λ n. n + each 1 (suc w)) z ∙ i))
    ∙ t.under in
    let j : l * 256 + x + each 96 (suc w) ≡ (l + each 96 w) * 256 + (x + 96) = omega arith in
    let o : bit_and (l + each 96 w) (each 128 w) * 256 + bit_and (x + 96) 128 ≡ each 128 w * 256 + 128 =
    sym (split (l + each 96 w) (each 128 w) (x + 96) 128 (omega arith) (lit< tt))
    ∙ ap (λ n. bit_and n (each 128 (suc w))) (sym (ap (λ n. n + each 96 (suc w)) z ∙ j))
    ∙ t.over in
    let q : x + 1 < 128 = no-high (x + 1) (omega arith) (omega arith) in
    record {
      front = record { plain = omega arith; under = omega arith; over = omega (arith, and_le_r (x + 96) 128) };
      above = omega (arith, and_le_r (x + 96) 128, and_le_l (x + 96) 128);
      below = omega arith;
    }

-- so none of its bytes strays
none-stray : (s : List ℕ) (at w : ℕ) → Bytes s → at + w ≤ length s → Tight s at w → strays (part s at w) ≡ false
unfolding strays
none-stray s at zero b h t = refl
none-stray s at (suc w) b h t =
    let l = last s at w b (omega arith) t in
    rw (← add-one w, part-more s at w (omega arith))
    (strays-more (part s at w) (get_or s (at + w) 0) (none-stray s at w b (omega arith) l.front) (within (get_or s (at + w) 0) l.above l.below))

-- as the code has them
pub tidy : (s : List ℕ) (at : ℕ) → Bytes s → at + 8 ≤ length s → bit_and (be (part s at 8)) 0x8080808080808080 ≡ 0
    → bit_and (bit_and (be (part s at 8)) 0x7f7f7f7f7f7f7f7f + 0x0101010101010101) 0x8080808080808080 ≡ 0
    → bit_and (bit_and (be (part s at 8)) 0x7f7f7f7f7f7f7f7f + 0x6060606060606060) 0x8080808080808080 ≡ 0x8080808080808080 → strays (part s at 8) ≡ false
tidy s at b h p u o = none-stray s at 8 b h (record { plain = p; under = u; over = o })

-- ---- the fields of a plain body

-- the one text that it may have is the stock
pub unstrayed : (order : Bool) (ks : List Kind) (s : List ℕ) (at limit : ℕ) → T (light order ks at) → (T order → strays (part s 26 8) ≡ false)
    → stray_in ks s at limit ≡ 0
unstrayed order [] s at limit t p = refl
unstrayed order (num w ∷ ks) s at limit t p = unstrayed order ks s (at + w) limit t p
unstrayed order (time ∷ ks) s at limit t p = absurd t
unstrayed order (text w ∷ ks) s at limit t p =
    let q = both (order && (eqb at 26 && eqb w 8)) (light order ks (at + w)) t in
    let a = both order (eqb at 26 && eqb w 8) q.0 in
    let b = both (eqb at 26) (eqb w 8) a.1 in
    let i : at ≡ 26 = eqb→eq at 26 b.0 in
    let e : w ≡ 8 = eqb→eq w 8 b.1 in
    let z : strays (part s at w) ≡ false = rw (i, e) (p a.0) in
    rw z (unstrayed order ks s (at + w) limit q.1 p)
unstrayed order (code set ∷ ks) s at limit t p =
    unstrayed order ks s (at + 1) limit (both (order && (eqb at 21 && same set side)) (light order ks (at + 1)) t).1 p
unstrayed order (subtype ∷ ks) s at limit t p = absurd t
