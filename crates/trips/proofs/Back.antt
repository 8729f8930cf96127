-- Reading what was written gives the record, and consumes what was written: what is written by a reading is read back by it, where it is not strict.
-- Assumes nothing.
use mathlib.Core.Path.{◌≡◌, refl, sym, ap, ◌∙◌, subst}
use mathlib.Core.List.{List, [], ◌∷◌, ◌++◌, append_assoc}
use mathlib.Core.Bool.{Bool, true, false, cond}
use mathlib.Core.Logic.{◌⊎◌, inl, inr}
use native.Mathlib.Omega.{arith}
use Prim.Native.Nat.{ℕ, ◌+◌, ◌^◌, ◌<◌}
use lib.Dec.{eqb, ltb, leb}
use lib.ListN.{length, drop}
use borrow.Author.Tests.{eqb-true, ltb-true}
use Rattle.std.specs.Prelude.{Ok, Err}
use Rattle.format.specs.Layout.{Kind, widths, accepted, read}
use Rattle.format.specs.Rows.{rows, rows_in, Found, found, none, find, fields_in, size_in, size_of, size_by, under, header, message, window}
use Rattle.format.specs.Strict.{ordinary}
use Rattle.format.specs.declared.Reading.{Reading}
use Rattle.format.proofs.Runs.{Reads, reads}
use Rattle.format.proofs.Tests.{and_split}
use Rattle.format.proofs.Editions.{row_in}
use Rattle.pen.specs.Encode.{write, layout, Sized}
use Rattle.pen.proofs.Puts.{length-write}
use Rattle.records.specs.declared.Message.{Message}
use Rattle.records.specs.Values.{values}
use Rattle.reader.specs.Window.{message_values, window_of}
use Rattle.reader.proofs.Back.{exactly}
use Rattle.writer.specs.declared.WriteError.TheVariants.{Kind as Kinds, Time, Text, Intraday, Room}
use Rattle.writer.specs.Writing.{tag_of, tag_fine, fields_of, texts_of, intraday, head_of, encode, written_of, buffer_after, FieldsFit}
use Rattle.writer.proofs.Says.{body-size}
use Rattle.trips.proofs.Fields.{reads-write}
use Rattle.trips.proofs.Legal.{codes, whole}

-- what an answer Ok says
record Accepts (rd : Reading) (m : Message) (n : ℕ) : Type 0 where
  pub agrees : m.tag ≡ tag_of m.body
  pub has : 0 < size_by rd m.tag
  pub texts : texts_of (values m.body) ≡ true
  pub crosses : intraday (values m.body) ≡ false
  pub size : 2 + size_of m.tag ≡ n

passed : (a b c d e : Bool) (k n : ℕ)
    → cond a (cond b (cond c (cond d (Err Intraday) (cond e (Ok k) (Err Room))) (Err Text)) (Err Time)) (Err Kinds) ≡ Ok n
    → (a ≡ true) × (c ≡ true) × (d ≡ false) × (k ≡ n)
passed true true true false true k n q = (refl, refl, refl, cc)
passed true true true false false k n q = let z : ◌≡◌ {A = ℕ} 0 1 = cc in absurd (omega arith)
passed true true true true e k n q = let z : ◌≡◌ {A = ℕ} 0 1 = cc in absurd (omega arith)
passed true true false d e k n q = let z : ◌≡◌ {A = ℕ} 0 1 = cc in absurd (omega arith)
passed true false c d e k n q = let z : ◌≡◌ {A = ℕ} 0 1 = cc in absurd (omega arith)
passed false b c d e k n q = let z : ◌≡◌ {A = ℕ} 0 1 = cc in absurd (omega arith)

accepts : (rd : Reading) (m : Message) (room n : ℕ) → written_of rd m room ≡ Ok n → Accepts rd m n
unfolding written_of
accepts rd m room n e =
    let p = passed (tag_fine rd m) (ltb m.timestamp (2 ^ 48)) (texts_of (values m.body)) (intraday (values m.body))
    (leb (2 + size_of m.tag) room) (2 + size_of m.tag) n e in
    let q = and_split (eqb m.tag (tag_of m.body)) (ltb 0 (size_by rd m.tag)) p.0 in
    record {
      agrees = eqb-true _ _ q.0;
      has = ltb-true _ _ q.1;
      texts = p.1;
      crosses = p.2;
      size = p.3;
    }

-- a tag that has a size by a reading has its row there
under-known : (f g : Found) (s : List ℕ) (at : ℕ) (vs : List ℕ) → (f ≡ g) ⊎ (f ≡ none) → 0 < size_in f
    → under f s at vs ≡ read (fields_in g) s at vs accepted
under-known (found r) g s at vs (inl e) h = ap (λ x. read (fields_in x) s at vs accepted) e
under-known (found r) g s at vs (inr e) h = let z : ◌≡◌ {A = ℕ} 0 1 = cc in absurd (omega arith)
under-known none g s at vs e h = absurd (omega arith)

body-under : (rd : Reading) (t : ℕ) (s : List ℕ) (at : ℕ) (vs : List ℕ) → 0 < size_by rd t
    → under (find (rows_in rd) t) s at vs ≡ read (layout t) s at vs accepted
unfolding layout size_by
body-under rd t s at vs h = under-known (find (rows_in rd) t) (find rows t) s at vs (row_in rd t) h

-- a message's bytes: its header's, and its body's
abbrev head_bytes : Message → List ℕ
head_bytes m = write header (head_of m)

abbrev body_bytes : Message → List ℕ
body_bytes m = write (layout (tag_of m.body)) (fields_of m.body)

module _ (rd : Reading) (m : Message) (n : ℕ) (a : Accepts rd m n) (h : Sized header (head_of m)) (b : Sized (layout (tag_of m.body)) (fields_of m.body)) where
  reads-header : (q : List ℕ) → Reads (head_bytes m ++ q) header 0 (head_of m)
  reads-header q = reads-write header (head_of m) refl h refl refl [] q

  reads-body : (q : List ℕ) → Reads (head_bytes m ++ (body_bytes m ++ q)) (layout (tag_of m.body)) 13 (fields_of m.body)
  unfolding texts_of
  reads-body q =
      let ks : List Kind = layout (tag_of m.body) in
      let r = reads-write ks (fields_of m.body) (whole m.body).1 b a.texts (codes m.body a.crosses) (head_bytes m) q in
      subst (λ x. Reads (head_bytes m ++ (body_bytes m ++ q)) ks x (fields_of m.body)) (length-write header (head_of m)) r

  window-encode : (q : List ℕ) → window (ordinary rd) (encode m ++ q) ≡ accepted (message_values m) n
  unfolding encode window
  window-encode q =
      let t : ℕ = tag_of m.body in
      let s : List ℕ = head_bytes m ++ (body_bytes m ++ q) in
      let v : List ℕ = m.tag ∷ m.stock_locate ∷ m.tracking_number ∷ m.timestamp ∷ [] in
      let e : (head_bytes m ++ write (layout m.tag) (fields_of m.body)) ++ q ≡ s =
      append_assoc (head_bytes m) (write (layout m.tag) (fields_of m.body)) q
      ∙ ap (λ k. head_bytes m ++ (write (layout k) (fields_of m.body) ++ q)) a.agrees in
      let g : read header s 0 [] (message (ordinary rd) s) ≡ message (ordinary rd) s (head_of m) 13 = reads (reads-header (body_bytes m ++ q)) [] (message (ordinary rd) s) in
      let k : message (ordinary rd) s (head_of m) 13 ≡ under (find (rows_in rd) t) s 13 (v ++ (t ∷ [])) =
      ap (λ k. under (find (rows_in rd) k) s 13 (v ++ (k ∷ []))) a.agrees in
      let u : under (find (rows_in rd) t) s 13 (v ++ (t ∷ [])) ≡ read (layout t) s 13 (v ++ (t ∷ [])) accepted =
      body-under rd t s 13 (v ++ (t ∷ [])) (subst (λ k. 0 < size_by rd k) a.agrees a.has) in
      let r : read (layout t) s 13 (v ++ (t ∷ [])) accepted ≡ accepted ((v ++ (t ∷ [])) ++ fields_of m.body) (13 + widths (layout t)) =
      reads (reads-body q) (v ++ (t ∷ [])) accepted in
      let w : (v ++ (t ∷ [])) ++ fields_of m.body ≡ v ++ values m.body = append_assoc v (t ∷ []) (fields_of m.body) ∙ ap (λ x. v ++ x) (whole m.body).0 in
      let z : size_of m.tag ≡ 11 + widths (layout t) = ap size_of a.agrees ∙ body-size m.body in
      let o : 13 + widths (layout t) ≡ n = omega (arith, a.size) in
      ap (λ x. read header x 0 [] (message (ordinary rd) x)) e ∙ g ∙ k ∙ u ∙ r ∙ ap (λ x. accepted x (13 + widths (layout t))) w ∙ ap (accepted (v ++ values m.body)) o

-- reading what was written gives the record, and consumes 2 + size: the written bytes
pub read_back : (rd : Reading) (m : Message) (s : List ℕ) (n : ℕ) → written_of rd m (length s) ≡ Ok n → FieldsFit (Ok n) m
    → (window_of (ordinary rd) (buffer_after (Ok n) m s) ≡ Ok (m, n)) × (n ≡ 2 + size_of m.tag)
unfolding buffer_after FieldsFit
read_back rd m s n e f =
    let a = accepts rd m (length s) n e in
    (sym (exactly (ordinary rd) (encode m ++ drop n s) (Ok (m, n)) (sym (window-encode rd m n a f.0 f.1 (drop n s)))), sym a.size)
