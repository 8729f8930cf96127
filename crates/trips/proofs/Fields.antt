-- A row that is written and read, and a row that is read and written, by induction on the row: the round trips, once for all layouts.
-- Assumes nothing.
use mathlib.Core.Path.{◌≡◌, refl, sym, ap, ◌∙◌, subst}
use mathlib.Core.List.{List, [], ◌∷◌, ◌++◌, append_assoc}
use mathlib.Core.Bool.{Bool, true, ◌&&◌}
use Prim.Native.Nat.{ℕ, zero, suc, ◌+◌, ◌*◌, ◌^◌, ◌/◌, ◌%◌, ◌≤◌, ◌<◌}
use native.Mathlib.Nat.{pow-suc}
use native.Mathlib.Numerals.{add-one}
use native.Mathlib.Omega.{arith}
use lib.ListN.{length, get_or, take, drop, length-append}
use lib.Seq.{take_at, drop-append_seam}
use Rattle.format.specs.Codes.{subtypes}
use Rattle.format.specs.Utf8.{well_formed}
use Rattle.format.specs.Layout.{Kind, num, time, text, code, subtype, width, widths, be, part, member, fine, judge, got, placed, field, judge_by}
use Rattle.format.proofs.Bytes.{Bytes, be-snoc, part-split, part-more}
use Rattle.format.proofs.Fields.{field-judged, field-fine, text-fine, code-fine}
use Rattle.format.proofs.Runs.{Reads, end, ◌⨾◌}
use Rattle.format.proofs.Tests.{and_split}
use Rattle.pen.specs.Encode.{digits, write, text_fine, texts_fine, Sized}
use Rattle.pen.proofs.Digits.{length_digits}

-- each code is one that its field allows
abbrev pub code_fine : Kind → ℕ → Bool
code_fine (num w) v = true
code_fine time v = true
code_fine (text w) v = true
code_fine (code set) v = member v set
code_fine subtype v = member v subtypes

abbrev pub codes_fine : List Kind → List ℕ → Bool
codes_fine [] vs = true
codes_fine (k ∷ ks) vs = code_fine k (get_or vs 0 0) && codes_fine ks (drop 1 vs)

-- the number of w bytes of a number below 256 ^ w
pub be-digits : (w v : ℕ) → v < 256 ^ w → be (digits w v) ≡ v
unfolding digits
be-digits zero v h = omega arith
be-digits (suc w) v h =
    let l : v < 256 ^ w * 256 = rw pow-suc at h in
    let k : v / 256 < 256 ^ w = omega arith in
    be-snoc 0 (digits w (v / 256)) (v % 256) ∙ ap (λ n. n * 256 + v % 256) (be-digits w (v / 256) k) ∙ omega arith

-- a value that fits, is UTF-8 if a text and allowed if a code, is judged to be itself
judged : (k : Kind) (v : ℕ) → v < 256 ^ width k → text_fine k v ≡ true → code_fine k v ≡ true → judge k (digits (width k) v) ≡ fine v
unfolding judge_by
judged (num w) v s t c = ap fine (be-digits w v s)
judged time v s t c = ap fine (be-digits 6 v s)
judged (text w) v s t c = rw t (ap fine (be-digits w v s))
judged (code set) v s t c = rw (be-digits 1 v s, c)
judged subtype v s t c = rw (be-digits 2 v s, c)

field-written : (k : Kind) (v : ℕ) (p q : List ℕ) → judge k (digits (width k) v) ≡ fine v → field k (p ++ (digits (width k) v ++ q)) (length p) ≡ got v
field-written k v p q h =
    let d : List ℕ = digits (width k) v in
    let n : length d ≡ width k = length_digits (width k) v in
    let l : length p + width k ≤ length (p ++ (d ++ q)) = simp length-append (omega arith) in
    let e : part (p ++ (d ++ q)) (length p) (width k) ≡ d = ap (take (width k)) (drop-append_seam p (d ++ q)) ∙ take_at d q (width k) n in
    field-judged k (p ++ (d ++ q)) (length p) l ∙ ap (λ bs. placed (length p) (judge k bs)) e ∙ ap (placed (length p)) h

-- reading what was written gives the values
pub reads-write : (ks : List Kind) (vs : List ℕ) → length vs ≡ length ks → Sized ks vs → texts_fine ks vs ≡ true → codes_fine ks vs ≡ true → (p q : List ℕ)
    → Reads (p ++ (write ks vs ++ q)) ks (length p) vs
reads-write [] [] n s t c p q = end
reads-write [] (v ∷ vs) n s t c p q = absurd (omega arith)
reads-write (k ∷ ks) [] n s t c p q = absurd (omega arith)
reads-write (k ∷ ks) (v ∷ vs) n s t c p q =
    let d : List ℕ = digits (width k) v in
    let z : List ℕ = write ks vs ++ q in
    let u = and_split (text_fine k v) (texts_fine ks vs) t in
    let x = and_split (code_fine k v) (codes_fine ks vs) c in
    let f : field k (p ++ (d ++ z)) (length p) ≡ got v = field-written k v p z (judged k v s.0 u.0 x.0) in
    let r : Reads ((p ++ d) ++ z) ks (length (p ++ d)) vs = reads-write ks vs (omega arith) s.1 u.1 x.1 (p ++ d) q in
    let a : p ++ ((d ++ write ks vs) ++ q) ≡ p ++ (d ++ z) = ap (λ x. p ++ x) (append_assoc d (write ks vs) q) in
    let m : length (p ++ d) ≡ length p + width k = length-append p d ∙ ap (λ m. length p + m) (length_digits (width k) v) in
    let g : Reads (p ++ (d ++ z)) ks (length (p ++ d)) vs = subst (λ x. Reads x ks (length (p ++ d)) vs) (append_assoc p d z) r in
    subst (λ x. Reads x (k ∷ ks) (length p) (v ∷ vs)) (sym a) (sym f ⨾ subst (λ x. Reads (p ++ (d ++ z)) ks x vs) m g)

-- the bytes of the number of w bytes
pub digits-be : (s : List ℕ) (at w : ℕ) → Bytes s → at + w ≤ length s → digits w (be (part s at w)) ≡ part s at w
unfolding digits
digits-be s at zero b h = refl
digits-be s at (suc w) b h =
    let l : at + w < length s = omega arith in
    let x : ℕ = get_or s (at + w) 0 in
    let q : part s at (suc w) ≡ part s at w ++ (x ∷ []) = rw (← add-one w) (part-more s at w l) in
    let n : be (part s at (suc w)) ≡ be (part s at w) * 256 + x = ap be q ∙ be-snoc 0 (part s at w) x in
    let y : x < 256 = b (at + w) in
    let d : be (part s at (suc w)) / 256 ≡ be (part s at w) = omega arith in
    let m : be (part s at (suc w)) % 256 ≡ x = omega arith in
    ap (λ v. digits w v ++ (be (part s at (suc w)) % 256 ∷ [])) d ∙ ap (λ z. digits w (be (part s at w)) ++ (z ∷ [])) m
    ∙ ap (λ xs. xs ++ (x ∷ [])) (digits-be s at w b (omega arith)) ∙ sym q

-- what a field of the bytes bs that gave v shows: v is written as these bytes; as a text it is UTF-8, as a code it is legal
record Took (k : Kind) (bs : List ℕ) (v : ℕ) : Type 0 where
  pub bytes : digits (width k) v ≡ bs
  pub texts : text_fine k v ≡ true
  pub codes : code_fine k v ≡ true

took : (k : Kind) (bs : List ℕ) (v : ℕ) → digits (width k) (be bs) ≡ bs → judge k bs ≡ fine v → Took k bs v
unfolding judge_by
took (num w) bs v d e = let q : be bs ≡ v = cc in subst (Took (num w) bs) q (record { bytes = d; texts = refl; codes = refl })
took time bs v d e = let q : be bs ≡ v = cc in subst (Took time bs) q (record { bytes = d; texts = refl; codes = refl })
took (text w) bs v d e =
    let p = text-fine w bs v e in
    subst (Took (text w) bs) p.1 (record { bytes = d; texts = ap well_formed d ∙ p.0; codes = refl })
took (code set) bs v d e =
    let p = code-fine set (be bs) v e in
    subst (Took (code set) bs) p.1 (record { bytes = d; texts = refl; codes = p.0 })
took subtype bs v d e =
    let p = code-fine subtypes (be bs) v e in
    subst (Took subtype bs) p.1 (record { bytes = d; texts = refl; codes = p.0 })

-- writing what was read gives its bytes; its texts are UTF-8 and its codes legal
pub took-row : {s : List ℕ} {ks : List Kind} {at : ℕ} {vs : List ℕ} → Reads s ks at vs → Bytes s
    → (write ks vs ≡ part s at (widths ks)) × (texts_fine ks vs ≡ true) × (codes_fine ks vs ≡ true)
took-row end b = (refl, refl, refl)
took-row {s} (◌⨾◌ {k = k} {ks = ks} {at = at} {v = v} {vs = vs} e r) b =
    let bs : List ℕ = part s at (width k) in
    let f = field-fine k s at (sym e) in
    let t : Took k bs v = took k bs v (digits-be s at (width k) b f.0) f.1 in
    let g = took-row r b in (
      ap (λ x. x ++ write ks vs) t.bytes ∙ ap (λ x. bs ++ x) g.0 ∙ sym (part-split s at (width k) (widths ks)),
      ap (λ x. x && texts_fine ks vs) t.texts ∙ g.1,
      ap (λ x. x && codes_fine ks vs) t.codes ∙ g.2,
    )
