-- What the rows of its tag and of its byte 21 say of a message in front: where they give its end, it has a plain body, every field of which has its value.
-- One law over the fields of a body, and the bits of a row.
-- Assumes nothing.
use Prim.Native.Nat.{ℕ, ◌+◌, ◌*◌, ◌/◌, ◌%◌, ◌^◌, ◌≤◌, ◌<◌}
use mathlib.Core.Path.{◌≡◌, refl, sym, ◌∙◌}
use mathlib.Core.Bool.{Bool, true, false, cond, ◌&&◌}
use mathlib.Core.List.{List, [], ◌∷◌}
use native.Mathlib.Omega.{arith}
use borrow.Author.Tests.{eqb-true, eqb-false}
use lib.Bits.{bit_and}
use lib.Dec.{T, eqb, eqb→eq}
use lib.ListN.{length, get_or}
use Rattle.format.specs.Codes.{side}
use Rattle.format.specs.Layout.{Kind, num, time, text, code, subtype, widths, member, be, part, got, judge_by, field}
use Rattle.format.specs.Rows.{Row, Found, found, none, find}
use Rattle.format.specs.Rows as Rows
use Rattle.format.specs.Utf8.{well_formed}
use Rattle.format.proofs.Bytes.{Bytes, be-one}
use Rattle.format.proofs.Fields.{field-num, field-text, field-judged}
use Rattle.format.proofs.Runs.{Reads, end, ◌⨾◌}
use Rattle.format.proofs.Tests.{both}
use Rattle.format.proofs.Text.{ascii}
use Rattle.laws.proofs.Window.{Sized, find-sized}
use Rattle.plain.specs.Plain.{same, light, ends, row_of, Table, end_by}

same-is : (xs ys : List ℕ) → T (same xs ys) → xs ≡ ys
same-is [] [] t = refl
same-is [] (y ∷ ys) t = absurd t
same-is (x ∷ xs) [] t = absurd t
same-is (x ∷ xs) (y ∷ ys) t =
    let q = both (eqb x y) (same xs ys) t in
    let a : x ≡ y = eqb→eq x y q.0 in
    let b : xs ≡ ys = same-is xs ys q.1 in
    cc

-- an order's side and stock are right, and the stock has no high bit
pub record Order (s : List ℕ) : Type 0 where
  legal : member (get_or s 21 0) side ≡ true
  formed : well_formed (part s 26 8) ≡ true
  pub low : bit_and (be (part s 26 8)) 0x8080808080808080 ≡ 0

side-got : (s : List ℕ) → 22 ≤ length s → member (get_or s 21 0) side ≡ true → field (code side) s 21 ≡ got (get_or s 21 0)
unfolding judge_by
side-got s h m = field-judged (code side) s 21 h ∙ rw (be-one s 21 (omega arith), m)

-- the two fields that are looked at, where they stand
at-21 : (order : Bool) (set s : List ℕ) (at : ℕ) → T (order && (eqb at 21 && same set side)) → at + 1 ≤ length s → (T order → Order s)
    → field (code set) s at ≡ got (get_or s 21 0)
at-21 order set s at t h p =
    let a = both order (eqb at 21 && same set side) t in
    let b = both (eqb at 21) (same set side) a.1 in
    let i : at ≡ 21 = eqb→eq at 21 b.0 in
    let e : set ≡ side = same-is set side b.1 in
    rw (i, e) (side-got s (omega arith) (p a.0).legal)

at-26 : (order : Bool) (w : ℕ) (s : List ℕ) (at : ℕ) → T (order && (eqb at 26 && eqb w 8)) → at + w ≤ length s → (T order → Order s)
    → field (text w) s at ≡ got (be (part s 26 8))
at-26 order w s at t h p =
    let a = both order (eqb at 26 && eqb w 8) t in
    let b = both (eqb at 26) (eqb w 8) a.1 in
    let i : at ≡ 26 = eqb→eq at 26 b.0 in
    let e : w ≡ 8 = eqb→eq w 8 b.1 in
    rw (i, e) (sym (field-text 8 s 26 (omega arith) refl (p a.0).formed))

-- every field has its value
pub light-reads : (order : Bool) (ks : List Kind) (s : List ℕ) (at : ℕ) → T (light order ks at) → at + widths ks ≤ length s → (T order → Order s)
    → (vs : List ℕ) × Reads s ks at vs
light-reads order [] s at t h p = ([], end)
light-reads order (num w ∷ ks) s at t h p =
    let r = light-reads order ks s (at + w) t (omega arith) p in
    (_, field-num w s at (omega arith) refl ⨾ r.1)
light-reads order (time ∷ ks) s at t h p = absurd t
light-reads order (text w ∷ ks) s at t h p =
    let q = both (order && (eqb at 26 && eqb w 8)) (light order ks (at + w)) t in
    let r = light-reads order ks s (at + w) q.1 (omega arith) p in
    (_, sym (at-26 order w s at q.0 (omega arith) p) ⨾ r.1)
light-reads order (code set ∷ ks) s at t h p =
    let q = both (order && (eqb at 21 && same set side)) (light order ks (at + 1)) t in
    let r = light-reads order ks s (at + 1) q.1 (omega arith) p in
    (_, sym (at-21 order set s at q.0 (omega arith) p) ⨾ r.1)
light-reads order (subtype ∷ ks) s at t h p = absurd t

-- what a place that is not zero says of the two rows and the stock
pub record Found-end (r c stock n : ℕ) : Type 0 where
  flagged : r / 256 % 2 + r / 2 ^ 63 * (c / 512 % 2) ≡ 0 → ⊥
  low : bit_and stock (r / 2 ^ 63 * 0x8080808080808080) ≡ 0
  pub place : r % 128 ≡ n

pub found-end : (r c stock n : ℕ) → end_by r c stock ≡ n → 0 < n → Found-end r c stock n
found-end r c stock n e h = go (eqb (r / 256 % 2 + r / 2 ^ 63 * (c / 512 % 2)) 0) (eqb (bit_and stock (r / 2 ^ 63 * 0x8080808080808080)) 0) refl refl e
  where
    go : (a b : Bool) → eqb (r / 256 % 2 + r / 2 ^ 63 * (c / 512 % 2)) 0 ≡ a → eqb (bit_and stock (r / 2 ^ 63 * 0x8080808080808080)) 0 ≡ b
        → cond a 0 (cond b (r % 128) 0) ≡ n → Found-end r c stock n
    go true b p q i = absurd (omega arith)
    go false true p q i = record { flagged = eqb-false _ _ p; low = eqb-true _ _ q; place = i }
    go false false p q i = absurd (omega arith)

-- a row is what its byte is as a tag, and 512 or nothing
record Side (k : ℕ) : Type 0 where
  whole : k % 512 ≡ 0
  once : k ≤ 512

side-part : (t : Bool) → Side (cond t 512 0)
side-part true = record { whole = refl; once = omega arith }
side-part false = record { whole = refl; once = omega arith }

side-legal : (t : Bool) → (cond t 512 0 / 512 ≡ 0 → ⊥) → t ≡ true
side-legal true h = refl
side-legal false h = absurd (h refl)

side-bit : (f : Found) (k : ℕ) → Sized f → Side k → (ends f + k) / 512 % 2 ≡ k / 512
side-bit (found r) k z d = go (light false r.body 13) (light true r.body 13)
  where
    go : (a b : Bool) → (cond a (256 + (2 + r.size)) (cond b (2 ^ 63 + (2 + r.size)) 0) + k) / 512 % 2 ≡ k / 512
    go true b = omega arith
    go false true = omega arith
    go false false = omega arith
side-bit none k z d = omega arith

no_end : (k c stock n : ℕ) → Side k → Found-end (0 + k) c stock n → ⊥
no_end k c stock n d q =
    let i : (0 + k) / 2 ^ 63 ≡ 0 = omega arith in
    q.flagged (rw i (omega arith))

-- a message in front that has a plain body and ends at n; its tag's row is `row`
pub record Lit (w : List ℕ) (row n : ℕ) : Type 0 where
  pub order : Bool
  pub at : Row
  pub is : find Rows.base (get_or w 2 0) ≡ found at
  pub body : T (light order at.body 13)
  pub right : T order → Order w
  pub marked : T order → row / 2 ^ 63 ≡ 1
  pub end : 13 + widths at.body ≡ n
  pub small : n ≤ 52

-- by the row of the tag: a body of numbers, an order, or neither
by_row : (w : List ℕ) (f : Found) (k c stock n : ℕ) → find Rows.base (get_or w 2 0) ≡ f → Sized f → Side k → Found-end (ends f + k) c stock n
    → ((c / 512 % 2 ≡ 0 → ⊥) → bit_and stock 0x8080808080808080 ≡ 0 → Order w) → Lit w (ends f + k) n
by_row w none k c stock n e z d q p = absurd (no_end k c stock n d q)
by_row w (found r) k c stock n e z d q p = go (light false r.body 13) (light true r.body 13) refl refl q
  where
    go : (a b : Bool) → light false r.body 13 ≡ a → light true r.body 13 ≡ b
        → Found-end (cond a (256 + (2 + r.size)) (cond b (2 ^ 63 + (2 + r.size)) 0) + k) c stock n
        → Lit w (cond a (256 + (2 + r.size)) (cond b (2 ^ 63 + (2 + r.size)) 0) + k) n
    go true b x y q = record {
      order = false;
      at = r;
      is = e;
      body = rw x tt;
      right = λ o. absurd o;
      marked = λ o. absurd o;
      end = omega (arith, q.place);
      small = omega (arith, q.place);
    }
    go false true x y q =
        let o : (2 ^ 63 + (2 + r.size) + k) / 2 ^ 63 ≡ 1 = omega arith in
        let j : (2 ^ 63 + (2 + r.size) + k) / 256 ≡ 2 ^ 55 + 2 * (k / 512) = omega arith in
        let l = rw o at q.low in
        let g = rw (o, j) at q.flagged in
        record {
          order = true;
          at = r;
          is = e;
          body = rw y tt;
          right = λ _. p (λ u. g (omega arith)) l;
          marked = λ _. o;
          end = omega (arith, q.place);
          small = omega (arith, q.place);
        }
    go false false x y q = absurd (no_end k c stock n d q)

based : (t : ℕ) → Sized (find Rows.base t)
based t = find-sized Rows.base tt t

-- by the table of a reading, which is no strict one: that is zero
pub by-table : (st : Bool) (w rows : List ℕ) (n : ℕ) → Bytes w → Table st rows → 52 ≤ length w
    → end_by (get_or rows (get_or w 2 0) 0) (get_or rows (get_or w 21 0) 0) (be (part w 26 8)) ≡ n → 0 < n → (st ≡ false) × Lit w (get_or rows (get_or w 2 0) 0) n
unfolding row_of
by-table true w rows n b t l e h = absurd (omega (arith, rw (t (get_or w 2 0) (b 2), t (get_or w 21 0) (b 21)) at e))
by-table false w rows n b t l e h =
    let x : ℕ = get_or w 2 0 in
    let y : ℕ = get_or w 21 0 in
    let f : Found = find Rows.base y in
    let d = side-part (member y side) in
    let q = found-end (row_of x) (row_of y) (be (part w 26 8)) n (rw (t x (b 2), t y (b 21)) at e) h in (
      refl,
      rw (t x (b 2)) (by_row w (find Rows.base x) (cond (member x side) 512 0) (row_of y) (be (part w 26 8)) n refl (based x) (side-part (member x side)) q
          (λ g z. record {
            legal = side-legal (member y side) (λ u. g (side-bit f (cond (member y side) 512 0) (based y) d ∙ u));
            formed = ascii 8 w 26 b (omega arith) refl z;
            low = z;
          })),
    )
