-- A plain message is accepted, and its end is where the table says; so it is by a strict reading, where the strict test passes it. And there is one table.
-- Assumes nothing.
use Prim.Native.Nat.{ℕ, ◌+◌, ◌*◌, ◌/◌, ◌%◌, ◌^◌, ◌≤◌, ◌<◌}
use mathlib.Core.Path.{◌≡◌, refl, sym, ap, ◌∙◌}
use mathlib.Core.Bool.{Bool, true, false, cond, ◌&&◌}
use mathlib.Core.List.{List, [], ◌∷◌}
use native.Mathlib.Omega.{arith}
use borrow.Author.Tests.{leb-true, ltb-true, eqb-true, lt-leb, le-ltb}
use lib.Bits.{bit_and}
use lib.Dec.{leb, ltb, eqb}
use lib.ListN.{length, get_or}
use lib.Seq.{ext_get_or}
use Rattle.std.specs.Prelude.{Ok}
use Rattle.format.specs.Layout.{be, part, day, accepted}
use Rattle.format.specs.Rows.{fields_in, body_in, window}
use Rattle.format.specs.Rows as Rows
use Rattle.format.specs.Strict.{ordinary, stray_in, stray_of}
use Rattle.format.specs.declared.Reading.{Reading}
use Rattle.format.proofs.Bytes.{Bytes, be-split, be-below}
use Rattle.format.proofs.Editions.{in-front}
use Rattle.format.proofs.Runs.{Reads, reads}
use Rattle.format.proofs.Strict.{window-strictly}
use Rattle.format.proofs.Tests.{and_split}
use Rattle.format.proofs.Windows.{pre, window-there}
use Rattle.records.specs.declared.Message.{Message}
use Rattle.reader.specs.Window.{message_from, window_from, window_of}
use Rattle.plain.specs.Plain.{Table, end_by, plain_of, tight_by, strictly_of}
use Rattle.plain.proofs.Bodies.{light-reads, found-end, Lit, by-table}
use Rattle.plain.proofs.Strays.{tidy, unstrayed}

-- ---- the tests

-- where the ordinary test gives a place, the window has the bytes that it looked at; and no place is above 127
pub record Tested (w rows : List ℕ) (n : ℕ) : Type 0 where
  pub long : 52 ≤ length w
  pub low : n < 128
  end : end_by (get_or rows (get_or w 2 0) 0) (get_or rows (get_or w 21 0) 0) (be (part w 26 8)) ≡ n

pub tested : (w rows : List ℕ) (n : ℕ) → plain_of w rows ≡ n → 0 < n → Tested w rows n
unfolding plain_of
tested w rows n e h = go (leb 52 (length w)) refl e
  where
    go : (a : Bool) → leb 52 (length w) ≡ a
        → cond a (end_by (get_or rows (get_or w 2 0) 0) (get_or rows (get_or w 21 0) 0) (be (part w 26 8))) 0 ≡ n → Tested w rows n
    go true l e = record {
      long = leb-true 52 (length w) l;
      low = omega (arith, (found-end (get_or rows (get_or w 2 0) 0) (get_or rows (get_or w 21 0) 0) (be (part w 26 8)) n e h).place);
      end = e;
    }
    go false l e = absurd (omega arith)

-- what the strict one adds
record Passed (v r stock : ℕ) : Type 0 where
  early : v % 2 ^ 48 < day
  under : bit_and (bit_and stock 0x7f7f7f7f7f7f7f7f + 0x0101010101010101) (r / 2 ^ 63 * 0x8080808080808080) ≡ 0
  over : bit_and (bit_and stock 0x7f7f7f7f7f7f7f7f + 0x6060606060606060) (r / 2 ^ 63 * 0x8080808080808080) ≡ r / 2 ^ 63 * 0x8080808080808080

passed : (v r stock : ℕ) → tight_by v r stock ≡ true → Passed v r stock
passed v r stock t =
    let high : ℕ = r / 2 ^ 63 * 0x8080808080808080 in
    let x : Bool = eqb (bit_and (bit_and stock 0x7f7f7f7f7f7f7f7f + 0x0101010101010101) high) 0 in
    let y : Bool = eqb (bit_and (bit_and stock 0x7f7f7f7f7f7f7f7f + 0x6060606060606060) high) high in
    let p = and_split (ltb (v % 2 ^ 48) day) (x && y) t in
    let q = and_split x y p.1 in
    record { early = ltb-true _ _ p.0; under = eqb-true _ _ q.0; over = eqb-true _ _ q.1 }

-- where it gives a place, the ordinary one gives the same
strictly-both : (w rows : List ℕ) (n : ℕ) → strictly_of w rows ≡ n → 0 < n
    → Passed (be (part w 5 8)) (get_or rows (get_or w 2 0) 0) (be (part w 26 8)) × (plain_of w rows ≡ n)
unfolding strictly_of
strictly-both w rows n e h = go (tight_by (be (part w 5 8)) (get_or rows (get_or w 2 0) 0) (be (part w 26 8))) refl e
  where
    go : (t : Bool) → tight_by (be (part w 5 8)) (get_or rows (get_or w 2 0) 0) (be (part w 26 8)) ≡ t → cond t (plain_of w rows) 0 ≡ n
        → Passed (be (part w 5 8)) (get_or rows (get_or w 2 0) 0) (be (part w 26 8)) × (plain_of w rows ≡ n)
    go true t e = (passed _ _ _ t, e)
    go false t e = absurd (omega arith)

pub strictly-tested : (w rows : List ℕ) (n : ℕ) → strictly_of w rows ≡ n → 0 < n → Tested w rows n
strictly-tested w rows n e h = tested w rows n (strictly-both w rows n e h).1 h

-- ---- the windows

module _ (w : List ℕ) {row n : ℕ} (l : Lit w row n) (long : 52 ≤ length w) where
  -- the values of the body, and of the message
  body : (vs : List ℕ) × Reads w l.at.body 13 vs
  body = light-reads l.order l.at.body w 13 l.body (omega (arith, l.end, l.small)) l.right

  abbrev values : List ℕ
  values = get_or w 2 0 ∷ be (part w 3 2) ∷ be (part w 5 2) ∷ be (part w 7 6) ∷ get_or w 2 0 ∷ body.0

  -- a row that every edition has is that of its tag, whatever the edition
  body-in : (rd : Reading) → body_in rd (get_or w 2 0) w ≡ accepted (get_or w 2 0 ∷ body.0) n
  unfolding body_in
  body-in rd =
      ap (λ x. Rows.under x w 13 (get_or w 2 0 ∷ [])) (in-front Rows.base (Rows.later rd.edition) (get_or w 2 0) l.is)
      ∙ reads body.1 (get_or w 2 0 ∷ []) accepted
      ∙ ap (accepted (get_or w 2 0 ∷ body.0)) l.end

  ordinarily : (rd : Reading) → window (ordinary rd) w ≡ accepted values n
  ordinarily rd = window-there rd w (omega arith) ∙ ap (pre (get_or w 2 0 ∷ be (part w 3 2) ∷ be (part w 5 2) ∷ be (part w 7 6) ∷ [])) (body-in rd)

  not-strictly : (rd : Reading) → rd.strict ≡ false → window rd w ≡ accepted values n
  not-strictly rd f = window-strictly rd w ∙ rw f (ordinarily rd)

  module _ (b : Bytes w) (t : Passed (be (part w 5 8)) row (be (part w 26 8))) where
    -- the time is below a day
    in-time : be (part w 7 6) < day
    in-time =
        let e : be (part w 5 8) ≡ be (part w 5 2) * 256 ^ 6 + be (part w 7 6) = be-split w 5 2 6 (omega arith) in
        let h : be (part w 7 6) < 256 ^ 6 = be-below w 7 6 b (omega arith) in
        let m : be (part w 5 8) % 2 ^ 48 ≡ be (part w 7 6) = omega arith in
        omega (arith, m, t.early)

    -- and no text strays
    no_stray : stray_of (get_or w 2 0) w (length w) ≡ 0
    unfolding stray_of
    no_stray =
        ap (λ f. stray_in (fields_in f) w 13 (length w)) (in-front Rows.base Rows.added (get_or w 2 0) l.is)
        ∙ unstrayed l.order l.at.body w 13 (length w) l.body
        (λ o. tidy w 26 b (omega arith) (l.right o).low (rw (l.marked o) at t.under) (rw (l.marked o) at t.over))

    by-any : (rd : Reading) → window rd w ≡ accepted values n
    by-any rd =
        window-strictly rd w
        ∙ rw (ordinarily rd, le-ltb (length w) 13 (omega arith), lt-leb day (be (part w 7 6)) in-time, no_stray) (go rd.strict)
      where
        go : (s : Bool) → cond s (accepted values n) (accepted values n) ≡ accepted values n
        go true = refl
        go false = refl

-- ---- the theorems

-- a message in front, by a reading, that ends at n
pub record Front (rd : Reading) (w : List ℕ) (n : ℕ) : Type 0 where
  pub message : Message
  pub accepted : window_of rd w ≡ Ok (message, n)
  pub tag : message.tag ≡ get_or w 2 0

-- by the values of a plain body
front : (rd : Reading) (w : List ℕ) {row n : ℕ} (l : Lit w row n) (long : 52 ≤ length w) → window rd w ≡ accepted (values w l long) n → Front rd w n
unfolding window_of
front rd w l long e = record { message = message_from (values w l long); accepted = ap window_from e; tag = refl }

-- a plain message by a reading's table, which is no strict one's: that is zero
pub plain-accepts : (rd : Reading) (w rows : List ℕ) (n : ℕ) → Bytes w → Table rd.strict rows → plain_of w rows ≡ n → 0 < n → Front rd w n
plain-accepts rd w rows n b t e h =
    let p = tested w rows n e h in
    let l = by-table rd.strict w rows n b t p.long p.end h in
    front rd w l.1 p.long (not-strictly w l.1 p.long rd l.0)

-- one that the strict test passes, by every reading
pub strictly-accepts : (rd : Reading) (w rows : List ℕ) (n : ℕ) → Bytes w → Table false rows → strictly_of w rows ≡ n → 0 < n → Front rd w n
strictly-accepts rd w rows n b t e h =
    let p = strictly-tested w rows n e h in
    let l = (by-table false w rows n b t p.long p.end h).1 in
    front rd w l p.long (by-any w l p.long b (strictly-both w rows n e h).0 rd)

-- the rule leaves one table
pub one_table : (st : Bool) (x y : List ℕ) → length x ≡ 256 → length y ≡ 256 → Table st x → Table st y → x ≡ y
one_table st x y h k p q = ext_get_or 0 x y (h ∙ sym k) (λ i l. p i (omega arith) ∙ sym (q i (omega arith)))
