-- Writing what was read, by the reading that it was read by, gives the consumed bytes, unless the length differed: then it gives them but for the
-- length.
-- Assumes nothing.
use mathlib.Core.Path.{◌≡◌, refl, sym, ap, ◌∙◌, subst}
use mathlib.Core.List.{List, [], ◌∷◌, ◌++◌, append_assoc}
use mathlib.Core.Logic.{◌⊎◌, inl, inr, ⊎_elim}
use native.Mathlib.Omega.{arith}
use Prim.Native.Nat.{ℕ, ◌+◌, ◌^◌, ◌≤◌, ◌<◌}
use lib.ListN.{length, get_or, drop, take, length-take}
use lib.Seq.{drop-append_seam, take_at, take-take}
use Rattle.std.specs.Prelude.{Ok}
use Rattle.format.specs.Layout.{time, widths, be, part, accepted, judge_by}
use Rattle.format.specs.Rows.{rows, rows_in, Found, found, none, find, fields_in, size_in, under, header, size_of, size_by, body_in, window}
use Rattle.format.specs.declared.Reading.{Reading}
use Rattle.format.proofs.Tests.{le-or-lt}
use Rattle.format.proofs.Bytes.{Bytes, be-below, be-one, part-split}
use Rattle.format.proofs.Fields.{field-judged, field-num}
use Rattle.format.proofs.Runs.{Reads, end, ◌⨾◌}
use Rattle.format.proofs.Strict.{ordinarily}
use Rattle.format.proofs.Windows.{window-there, window-cut}
use Rattle.laws.proofs.Rows.{all_read}
use Rattle.format.proofs.Editions.{row_in}
use Rattle.laws.proofs.Window.{pre-accepted, sizes-50, window-covers}
use Rattle.pen.specs.Encode.{digits, write, layout}
use Rattle.pen.proofs.Digits.{length_digits}
use Rattle.records.specs.declared.Message.{Message}
use Rattle.records.specs.Values.{values}
use Rattle.reader.specs.Window.{message_values, window_m}
use Rattle.writer.specs.Writing.{tag_of, fields_of, texts_of, head_of, encode, written_of, buffer_after}
use Rattle.writer.proofs.Says.{body-size, says-done}
use Rattle.trips.specs.Trips.{Regular}
use Rattle.trips.proofs.Fields.{be-digits, digits-be, took-row}
use Rattle.trips.proofs.Legal.{no-intraday}

-- an accepted message, field by field
record Opened (rd : Reading) (s : List ℕ) (m : Message) : Type 0 where
  pub long : 13 ≤ length s
  pub tag : m.tag ≡ get_or s 2 0
  pub locate : m.stock_locate ≡ be (part s 3 2)
  pub tracking : m.tracking_number ≡ be (part s 5 2)
  pub stamp : m.timestamp ≡ be (part s 7 6)
  pub agrees : m.tag ≡ tag_of m.body
  pub has : 0 < size_by rd m.tag
  pub fields : Reads s (layout (tag_of m.body)) 13 (fields_of m.body)

-- a body that was read by a reading's row f was read by the tag's row g
under-read : (f g : Found) (s : List ℕ) (t : ℕ) (ws : List ℕ) (n : ℕ) → (f ≡ g) ⊎ (f ≡ none) → under f s 13 (t ∷ []) ≡ accepted ws n
    → (hs : List ℕ) × Reads s (fields_in g) 13 hs × (t ∷ hs ≡ ws) × (size_in f ≡ size_in g)
under-read (found r) g s t ws n (inl q) e =
    let a = all_read r.body s 13 (t ∷ []) accepted ws n e in
    (a.0, subst (λ x. Reads s (fields_in x) 13 a.0) q a.1, cc a.2, ap size_in q)
under-read (found r) g s t ws n (inr q) e = let z : ◌≡◌ {A = ℕ} 0 1 = cc in absurd (omega arith)
under-read none g s t ws n q e = let z : ◌≡◌ {A = ℕ} 0 1 = cc in absurd (omega arith)

body-read : (rd : Reading) (t : ℕ) (s ws : List ℕ) (n : ℕ) → body_in rd t s ≡ accepted ws n
    → (hs : List ℕ) × Reads s (layout t) 13 hs × (t ∷ hs ≡ ws) × (size_by rd t ≡ size_of t)
unfolding body_in layout size_by size_of
body-read rd t s ws n e = under-read (find (rows_in rd) t) (find rows t) s t ws n (row_in rd t) e

opened : (rd : Reading) (s : List ℕ) (m : Message) (n : ℕ) → window rd s ≡ accepted (message_values m) n → Opened rd s m
opened rd s m n e =
    ⊎_elim
    (λ l.
    let t : ℕ = get_or s 2 0 in
    let h : List ℕ = t ∷ be (part s 3 2) ∷ be (part s 5 2) ∷ be (part s 7 6) ∷ [] in
    let p = pre-accepted h (body_in rd t s) (message_values m) n (sym (window-there rd s l) ∙ ordinarily rd s (message_values m) n e) in
    let d = body-read rd t s p.0 n p.1 in
    let at : (i : ℕ) → get_or (message_values m) i 0 ≡ get_or (h ++ p.0) i 0 = λ i. sym (ap (λ vs. get_or vs i 0) p.2) in
    let qw : p.0 ≡ values m.body = ap (drop 4) p.2 in
    let qv : t ∷ d.0 ≡ values m.body = d.2 ∙ qw in
    let qt : t ≡ tag_of m.body = ap (λ vs. get_or vs 0 0) qv in
    record {
      long = l;
      tag = at 0;
      locate = at 1;
      tracking = at 2;
      stamp = at 3;
      agrees = at 0 ∙ qt;
      has = subst (λ k. 0 < size_by rd k) (sym (at 0)) (omega (arith, d.3, ap size_of qt ∙ body-size m.body));
      fields = subst (λ k. Reads s (layout k) 13 (fields_of m.body)) qt (subst (Reads s (layout t) 13) (ap (drop 1) qv) d.1);
    })
    (λ l. let z : ◌≡◌ {A = ℕ} 0 1 = cc (window-cut rd s l) in absurd (omega arith))
    (le-or-lt 13 (length s))

-- the header's fields from the tag on
head-reads : (s : List ℕ) → 13 ≤ length s → Reads s (drop 1 header) 2 (get_or s 2 0 ∷ be (part s 3 2) ∷ be (part s 5 2) ∷ be (part s 7 6) ∷ [])
unfolding judge_by
head-reads s h =
    field-num 1 s 2 (omega arith) (sym (be-one s 2 (omega arith)))
    ⨾ field-num 2 s 3 (omega arith) refl
    ⨾ field-num 2 s 5 (omega arith) refl
    ⨾ sym (field-judged time s 7 (omega arith))
    ⨾ end

head_bytes : (rd : Reading) (s : List ℕ) (m : Message) → Bytes s → Opened rd s m → write (drop 1 header) (drop 1 (head_of m)) ≡ part s 2 11
head_bytes rd s m b o =
    rw (o.tag, o.locate, o.tracking, o.stamp) (took-row (head-reads s o.long) b).0

-- what was read is written where the buffer holds it: the size, and behind it the bytes that were read behind the length
written-again : (rd : Reading) (s : List ℕ) (m : Message) (n room : ℕ) → Bytes s → window_m (Ok (m, n)) ≡ window rd s → n ≤ room
    → (written_of rd m room ≡ Ok n) × (encode m ≡ digits 2 (size_of m.tag) ++ part s 2 (size_of m.tag))
unfolding encode texts_of
written-again rd s m n room b e l =
    let o = opened rd s m n (sym e) in
    let c : n ≡ 2 + size_of m.tag = (window-covers rd s (message_values m) n (sym e)).0 in
    let t = took-row o.fields b in
    let y : be (part s 7 6) < 256 ^ 6 = be-below s 7 6 b (omega (arith, o.long)) in
    let z : ℕ = widths (layout m.tag) in
    let x : size_of m.tag ≡ 11 + z = ap size_of o.agrees ∙ body-size m.body ∙ ap (λ k. 11 + widths (layout k)) (sym o.agrees) in
    let d : List ℕ = digits 2 (size_of m.tag) in
    let f : List ℕ = write (layout m.tag) (fields_of m.body) in
    let k : f ≡ part s 13 z = rw o.agrees t.0 in (
      sym (says-done rd m room o.agrees o.has (omega (arith, o.stamp)) t.1 (no-intraday (values m.body) t.2) (omega arith)) ∙ ap Ok (sym c),
      append_assoc d (write (drop 1 header) (drop 1 (head_of m))) f ∙ ap (λ xs. d ++ (xs ++ f)) (head_bytes rd s m b o) ∙ ap (λ xs. d ++ (part s 2 11 ++ xs)) k
          ∙ ap (λ xs. d ++ xs) (sym (part-split s 2 11 z) ∙ ap (part s 2) (sym x)),
    )

behind : (p q : List ℕ) → length p ≡ 2 → drop 2 (p ++ q) ≡ q
behind p q h = ap (λ k. drop k (p ++ q)) (sym h) ∙ drop-append_seam p q

-- writing what was read gives the consumed bytes, and later bytes stay: behind the length field always, and from it on unless it differed
pub written_back : (rd : Reading) (s : List ℕ) (m : Message) (n : ℕ) (t : List ℕ) → Bytes s → window_m (Ok (m, n)) ≡ window rd s → n ≤ length t
    → (written_of rd m (length t) ≡ Ok n) × (drop 2 (buffer_after (Ok n) m t) ≡ drop 2 (take n s ++ drop n t))
    × (Regular s m → buffer_after (Ok n) m t ≡ take n s ++ drop n t)
unfolding buffer_after
written_back rd s m n t b e l =
    let o = opened rd s m n (sym e) in
    let c : n ≡ 2 + size_of m.tag = (window-covers rd s (message_values m) n (sym e)).0 in
    let w = written-again rd s m n (length t) b e l in
    let d : List ℕ = digits 2 (size_of m.tag) in
    let p : List ℕ = part s 2 (size_of m.tag) in
    let a : digits 2 (be (part s 0 2)) ≡ part s 0 2 = digits-be s 0 2 b (omega (arith, o.long)) in
    let u : encode m ++ drop n t ≡ d ++ (p ++ drop n t) = ap (λ xs. xs ++ drop n t) w.1 ∙ append_assoc d p (drop n t) in
    let v : take n s ++ drop n t ≡ part s 0 2 ++ (p ++ drop n t) =
    ap (λ k. take k s ++ drop n t) c ∙ ap (λ xs. xs ++ drop n t) (part-split s 0 2 (size_of m.tag)) ∙ append_assoc (part s 0 2) p (drop n t) in (
      w.0,
      ap (drop 2) u ∙ behind d (p ++ drop n t) (length_digits 2 (size_of m.tag))
          ∙ sym (ap (drop 2) v ∙ behind (part s 0 2) (p ++ drop n t) (sym (ap length a) ∙ length_digits 2 (be (part s 0 2)))),
      λ f. u ∙ ap (λ xs. xs ++ (p ++ drop n t)) (ap (digits 2) (sym f) ∙ a) ∙ sym v,
    )

-- so the bytes that are written are those that were read exactly where the length is the size
pub same-exactly : (rd : Reading) (s : List ℕ) (m : Message) (n : ℕ) (t : List ℕ) → Bytes s → window_m (Ok (m, n)) ≡ window rd s → n ≤ length t
    → (Regular s m → take n s ≡ take n (buffer_after (Ok n) m t)) × (take n s ≡ take n (buffer_after (Ok n) m t) → Regular s m)
unfolding buffer_after
same-exactly rd s m n t b e l =
    let c = window-covers rd s (message_values m) n (sym e) in
    let d : List ℕ = digits 2 (size_of m.tag) in
    let q : List ℕ = part s 2 (size_of m.tag) ++ drop n t in
    let u : encode m ++ drop n t ≡ d ++ q = ap (λ xs. xs ++ drop n t) (written-again rd s m n (length t) b e l).1 ∙ append_assoc d (part s 2 (size_of m.tag)) (drop n t) in
    let k : length (take n s) ≡ n = simp length-take (omega (arith, c.1)) in (
      λ f. sym (ap (take n) ((written_back rd s m n t b e l).2 f) ∙ take_at (take n s) (drop n t) n k),
      λ f.
          let h : take 2 s ≡ d =
          sym (take-take 2 n s (omega (arith, c.2))) ∙ ap (take 2) f ∙ take-take 2 n (encode m ++ drop n t) (omega (arith, c.2)) ∙ ap (take 2) u ∙ take_at d q 2 (length_digits 2 (size_of m.tag)) in
          ap be h ∙ be-digits 2 (size_of m.tag) (omega (arith, sizes-50 m.tag)),
    )
