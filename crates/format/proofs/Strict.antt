-- The strict answer is the ordinary one made stricter: 4 where the time is a day or more, and else 5 where a text strays that stands before any field
-- which the ordinary reading refuses. So it is the ordinary one, or 4, or 5; and a strict acceptance is an ordinary one, with the same values and the
-- same bytes consumed.
-- Assumes nothing.
use Prim.Native.Nat.{ℕ, ◌+◌, ◌≤◌, ◌<◌, min}
use mathlib.Core.Path.{◌≡◌, refl, sym, ap, ◌∙◌}
use mathlib.Core.Bool.{Bool, true, false, cond, ◌&&◌}
use mathlib.Core.List.{List, [], ◌∷◌, ◌++◌}
use mathlib.Core.Logic.{◌⊎◌, inl, inr, ⊎_elim}
use native.Mathlib.Omega.{arith}
use borrow.Author.Tests.{le-leb, lt-leb, lt-ltb, le-ltb, ne_eqb}
use lib.Dec.{T, leb, ltb, eqb}
use lib.ListN.{length, get_or, drop, length-drop}
use lib.Seq.{length-take-le}
use Rattle.format.specs.Codes.{subtypes}
use Rattle.format.specs.Utf8.{well_formed, first_bad}
use Rattle.format.specs.Layout.{Kind, num, time, text, code, subtype, width, be, day, strays, first_stray, part, Verdict, fine, wrong, judge, judge_by, placed, Answer, accepted, incomplete, refuses, step, read, read_by}
use Rattle.format.specs.Rows.{Row, rows, rows_in, Found, found, none, find, fields_in, under, under_by, header, window}
use Rattle.format.specs.Strict.{ordinary, strayed, stray_in, stray_of, limit_of, settle, stricter}
use Rattle.format.specs.declared.Reading.{Reading}
use Rattle.format.proofs.Tests.{both, le-or-lt}
use Rattle.format.proofs.Fields.{short-by, judged-by, field-short, field-judged, text-cases, code-cases}
use Rattle.format.proofs.Texts.{not-formed}
use Rattle.format.proofs.Runs.{reads}
use Rattle.format.proofs.Heads.{header-cut, header-reads, header-strictly}
use Rattle.format.proofs.Editions.{row_in}

-- ---- one field

-- a judgement made stricter: 5 at an offset, right after 3
abbrev tight : Bool → ℕ → Verdict → Verdict
tight b o (fine v) = cond b (wrong 5 o) (fine v)
tight b o (wrong n p) = wrong n p

same : (o : ℕ) (x : Verdict) → x ≡ tight false o x
same o (fine v) = refl
same o (wrong n p) = refl

-- any kind but the time, which no body has
abbrev untimed : Kind → Bool
untimed (num w) = true
untimed time = false
untimed (text w) = true
untimed (code set) = true
untimed subtype = true

judged : (k : Kind) (bs : List ℕ) → T (untimed k) → judge_by true k bs ≡ tight (strayed k bs) (first_stray bs) (judge k bs)
unfolding judge_by
judged (num w) bs t = refl
judged time bs t = absurd t
judged (text w) bs t = go (well_formed bs)
  where
    go : (b : Bool) → cond b (cond (strays bs) (wrong 5 (first_stray bs)) (fine (be bs))) (wrong 3 (first_bad bs))
        ≡ tight (strays bs) (first_stray bs) (cond b (fine (be bs)) (wrong 3 (first_bad bs)))
    go true = refl
    go false = refl
judged (code set) bs t = same (first_stray bs) (judge (code set) bs)
judged subtype bs t = same (first_stray bs) (judge subtype bs)

-- the place of an ordinary refusal lies inside its field
inside : (k : Kind) (bs : List ℕ) (n o : ℕ) → length bs ≡ width k → judge k bs ≡ wrong n o → o < width k
unfolding judge_by
inside (num w) bs n o l e = let z : ◌≡◌ {A = ℕ} 0 1 = cc in absurd (omega arith)
inside time bs n o l e = let z : ◌≡◌ {A = ℕ} 0 1 = cc in absurd (omega arith)
inside (text w) bs n o l e =
    text-cases (λ x. x ≡ wrong n o → o < w) w bs
    (λ t q. let z : ◌≡◌ {A = ℕ} 0 1 = cc in absurd (omega arith))
    (λ t q. let i : first_bad bs ≡ o = cc in omega (arith, not-formed bs t))
    e
inside (code set) bs n o l e =
    code-cases (λ x. x ≡ wrong n o → o < 1) set (be bs)
    (λ t q. let z : ◌≡◌ {A = ℕ} 0 1 = cc in absurd (omega arith))
    (λ t q. let i : ◌≡◌ {A = ℕ} 0 o = cc in omega arith)
    e
inside subtype bs n o l e =
    code-cases (λ x. x ≡ wrong n o → o < 2) subtypes (be bs)
    (λ t q. let z : ◌≡◌ {A = ℕ} 0 1 = cc in absurd (omega arith))
    (λ t q. let i : ◌≡◌ {A = ℕ} 0 o = cc in omega arith)
    e

-- ---- a row of fields

abbrev timeless : List Kind → Bool
timeless [] = true
timeless (k ∷ ks) = untimed k && timeless ks

-- its refusals lie from its first byte on
onward : (ks : List Kind) (s : List ℕ) (at : ℕ) (vs : List ℕ) (n q : ℕ) → read ks s at vs accepted ≡ refuses n q → at ≤ q
onward [] s at vs n q e = let z : ◌≡◌ {A = ℕ} 0 1 = cc in absurd (omega arith)
onward (k ∷ ks) s at vs n q e =
    ⊎_elim
    (λ l. go (judge k (part s at (width k))) (λ v. onward ks s (at + width k) (vs ++ (v ∷ [])) n q) (rw (field-judged k s at l) at e))
    (λ l. let z : incomplete ≡ refuses n q = rw (← field-short k s at l) at e in let y : ◌≡◌ {A = ℕ} 0 1 = cc in absurd (omega arith))
    (le-or-lt (at + width k) (length s))
  where
    go : (x : Verdict) → ((v : ℕ) → read ks s (at + width k) (vs ++ (v ∷ [])) accepted ≡ refuses n q → at + width k ≤ q)
        → step (placed at x) (λ v. read ks s (at + width k) (vs ++ (v ∷ [])) accepted) ≡ refuses n q → at ≤ q
    go (fine v) rest e = let h = rest v e in omega arith
    go (wrong m o) rest e = let i : at + o ≡ q = cc in omega arith

-- so a field that is there, and before any refused one, counts
counts : (s : List ℕ) (a : Answer) (end : ℕ) → end ≤ length s → ((n q : ℕ) → a ≡ refuses n q → end ≤ q) → end ≤ limit_of s a
counts s (accepted vs n) end l h = l
counts s incomplete end l h = l
counts s (refuses n q) end l h = omega (arith, h n q refl)

-- a field that ends behind the limit does not
uncounted : (k : Kind) (s : List ℕ) (at limit rest : ℕ) → limit < at + width k
    → cond (strayed k (part s at (width k)) && leb (at + width k) limit) (at + first_stray (part s at (width k))) rest ≡ rest
uncounted k s at limit rest h = rw (lt-leb _ _ h) (go (strayed k (part s at (width k))))
  where
    go : (b : Bool) → cond (b && false) (at + first_stray (part s at (width k))) rest ≡ rest
    go true = refl
    go false = refl

beyond : (ks : List Kind) (s : List ℕ) (at limit : ℕ) → limit < at → stray_in ks s at limit ≡ 0
beyond [] s at limit h = refl
beyond (k ∷ ks) s at limit h =
    uncounted k s at limit (stray_in ks s (at + width k) limit) (omega arith) ∙ beyond ks s (at + width k) limit (omega arith)

first-beyond : (k : Kind) (ks : List Kind) (s : List ℕ) (at limit : ℕ) → limit < at + width k → stray_in (k ∷ ks) s at limit ≡ 0
first-beyond k ks s at limit h = uncounted k s at limit (stray_in ks s (at + width k) limit) h ∙ beyond ks s (at + width k) limit h

settles : (p : ℕ) (a : Answer) → 0 < p → settle p a ≡ refuses 5 p
settles p a h = rw (ne_eqb p 0 (λ e. omega arith))

-- the law of a row
strictly : (ks : List Kind) (s : List ℕ) (at : ℕ) (vs : List ℕ) → T (timeless ks) → 0 < at
    → read_by true ks s at vs accepted ≡ settle (stray_in ks s at (limit_of s (read ks s at vs accepted))) (read ks s at vs accepted)
strictly [] s at vs t h = refl
strictly (k ∷ ks) s at vs t h =
    ⊎_elim
    (λ l.
    rw (judged-by true k s at l, judged k (part s at (width k)) u.0, field-judged k s at l)
    (go (judge k (part s at (width k))) (strayed k (part s at (width k))) refl refl l (λ v. strictly ks s (at + width k) (vs ++ (v ∷ [])) u.1 (omega arith))))
    (λ l. rw (← short-by true k s at l, ← field-short k s at l) (ap (λ p. settle p incomplete) (sym (first-beyond k ks s at (length s) l))))
    (le-or-lt (at + width k) (length s))
  where
    u : T (untimed k) × T (timeless ks)
    u = both (untimed k) (timeless ks) t

    R : ℕ → Answer
    R v = read ks s (at + width k) (vs ++ (v ∷ [])) accepted

    go : (x : Verdict) (b : Bool) → judge k (part s at (width k)) ≡ x → strayed k (part s at (width k)) ≡ b → at + width k ≤ length s
        → ((v : ℕ) → read_by true ks s (at + width k) (vs ++ (v ∷ [])) accepted ≡ settle (stray_in ks s (at + width k) (limit_of s (R v))) (R v))
        → step (placed at (tight b (first_stray (part s at (width k))) x)) (λ v. read_by true ks s (at + width k) (vs ++ (v ∷ [])) accepted)
        ≡ settle
        (cond (b && leb (at + width k) (limit_of s (step (placed at x) R))) (at + first_stray (part s at (width k)))
        (stray_in ks s (at + width k) (limit_of s (step (placed at x) R))))
        (step (placed at x) R)
    go (fine v) true e f l rest =
        rw (le-leb _ _ (counts s (R v) (at + width k) l (λ n q i. onward ks s (at + width k) (vs ++ (v ∷ [])) n q i)))
        (sym (settles (at + first_stray (part s at (width k))) (R v) (omega arith)))
    go (fine v) false e f l rest = rest v
    go (wrong n o) b e f l rest =
        let d : width k ≤ length (drop at s) = simp length-drop (omega arith) in
        let i : o < width k = inside k (part s at (width k)) n o (length-take-le (width k) (drop at s) d) e in
        ap (λ p. settle p (refuses n (at + o))) (sym (rw f at (first-beyond k ks s at (min (at + o) (length s)) (omega arith))))

-- ---- the window

abbrev timeless-rows : List Row → Bool
timeless-rows [] = true
timeless-rows (r ∷ rs) = timeless r.body && timeless-rows rs

find-timeless : (rs : List Row) → T (timeless-rows rs) → (t : ℕ) → T (timeless (fields_in (find rs t)))
find-timeless [] q t = tt
find-timeless (r ∷ rs) q t = go (eqb r.tag t) (find-timeless rs b.1 t)
  where
    b : T (timeless r.body) × T (timeless-rows rs)
    b = both (timeless r.body) (timeless-rows rs) q

    go : (c : Bool) → T (timeless (fields_in (find rs t))) → T (timeless (fields_in (cond c (found r) (find rs t))))
    go true h = b.0
    go false h = h

-- a body that is read by the row f, which is the tag's row g, or by none
under-strictly : (f g : Found) (s vs : List ℕ) → (f ≡ g) ⊎ (f ≡ none) → T (timeless (fields_in g))
    → under_by true f s 13 vs ≡ settle (stray_in (fields_in g) s 13 (limit_of s (under f s 13 vs))) (under f s 13 vs)
under-strictly f (found r) s vs (inl e) t = rw e (strictly r.body s 13 vs t (omega arith))
under-strictly f none s vs (inl e) t = rw e
under-strictly f g s vs (inr e) t = rw e (ap (λ p. settle p (refuses 1 2)) (sym (beyond (fields_in g) s 13 (min 2 (length s)) (omega arith))))

pub window-strictly : (rd : Reading) (s : List ℕ) → window rd s ≡ cond rd.strict (stricter s (window (ordinary rd) s)) (window (ordinary rd) s)
unfolding window stray_of
window-strictly rd s = go rd.strict
  where
    f : Found
    f = find (rows_in rd) (get_or s 2 0)

    v : List ℕ
    v = get_or s 2 0 ∷ be (part s 3 2) ∷ be (part s 5 2) ∷ be (part s 7 6) ∷ get_or s 2 0 ∷ []

    after : Bool → List ℕ → ℕ → Answer
    after strict h at = under_by strict (find (rows_in rd) (get_or h 1 0)) s at (drop 1 h ++ (get_or h 1 0 ∷ []))

    there : 13 ≤ length s → read_by true header s 0 [] (after true) ≡ stricter s (read_by false header s 0 [] (after false))
    there h =
        let q : read_by false header s 0 [] (after false) ≡ under f s 13 v = reads (header-reads s h) [] (after false) in
        header-strictly s (after true) h
        ∙ rw (q, le-ltb (length s) 13 h)
        (ap (λ x. cond (leb day (be (part s 7 6))) (refuses 4 7) x) (under-strictly f (find rows (get_or s 2 0)) s v (row_in rd (get_or s 2 0)) (find-timeless rows tt (get_or s 2 0))))

    go : (b : Bool) → read_by b header s 0 [] (after b) ≡ cond b (stricter s (read_by false header s 0 [] (after false))) (read_by false header s 0 [] (after false))
    go false = refl
    go true =
        ⊎_elim
        there
        (λ h. header-cut true s (after true) h ∙ rw (lt-ltb (length s) 13 h) (sym (header-cut false s (after false) h)))
        (le-or-lt 13 (length s))

-- what holds of the ordinary answer, of 4 at 7 and of 5 anywhere holds of the answer by any reading
pub by-reading : (P : Answer → Type 0) (rd : Reading) (s : List ℕ) → P (window (ordinary rd) s) → P (refuses 4 7) → ((p : ℕ) → P (refuses 5 p)) → P (window rd s)
by-reading P rd s h four five = rw (window-strictly rd s) (go rd.strict (ltb (length s) 13) (leb day (be (part s 7 6))) (stray_of (get_or s 2 0) s (limit_of s (window (ordinary rd) s))))
  where
    a : Answer
    a = window (ordinary rd) s

    settled : (b : Bool) (p : ℕ) → P (cond b a (refuses 5 p))
    settled true p = h
    settled false p = five p

    go : (strict short late : Bool) (p : ℕ) → P (cond strict (cond short a (cond late (refuses 4 7) (settle p a))) a)
    go true true late p = h
    go true false true p = four
    go true false false p = settled (eqb p 0) p
    go false short late p = h

-- an acceptance by any reading is an ordinary one
pub ordinarily : (rd : Reading) (s vs : List ℕ) (n : ℕ) → window rd s ≡ accepted vs n → window (ordinary rd) s ≡ accepted vs n
ordinarily rd s vs n =
    by-reading (λ x. x ≡ accepted vs n → window (ordinary rd) s ≡ accepted vs n) rd s (λ e. e)
    (λ e. let z : ◌≡◌ {A = ℕ} 0 1 = cc in absurd (omega arith))
    (λ p e. let z : ◌≡◌ {A = ℕ} 0 1 = cc in absurd (omega arith))
