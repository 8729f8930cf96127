-- The laws of the window, for all tags at once, of the definition that parse_message is proved to meet: appended bytes change nothing of an
-- acceptance or a refusal; a window that has all bytes of its tag's message, as 52 always are, is never incomplete; an accepted message consumed
-- 2 + size of its tag, which lie within the window and are accepted by themselves; each strict prefix of them is incomplete.
-- Assumes nothing.
use mathlib.Core.Path.{◌≡◌, refl, sym, ap, ◌∙◌}
use mathlib.Core.Bool.{Bool, true, false, cond, ◌&&◌}
use mathlib.Core.List.{List, [], ◌∷◌, ◌++◌}
use mathlib.Core.Logic.{◌⊎◌, inl, inr, ⊎_elim}
use Prim.Native.Nat.{ℕ, ◌+◌, ◌≤◌, ◌<◌}
use native.Mathlib.Omega.{arith}
use lib.Dec.{T, eqb, leb, leb→le, eqb→eq}
use lib.ListN.{length, take, drop, get_or, take-append-drop}
use lib.Seq.{length-take-le, get_or-take}
use Rattle.format.specs.Layout.{widths, Answer, accepted, incomplete, refuses, be, part}
use Rattle.format.specs.Rows.{Row, rows, rows_in, Found, found, none, find, size_in, size_of, under, under_by, header, message, body_in, window}
use Rattle.format.specs.declared.Reading.{Reading}
use Rattle.format.proofs.Tests.{both, le-or-lt}
use Rattle.format.proofs.Windows.{pre, window-there, window-cut}
use Rattle.format.proofs.Editions.{row_in}
use Rattle.format.proofs.Strict.{by-reading, ordinarily}
use Rattle.laws.proofs.Rows.{Firm, keeps, enough, all_read, covers}

-- appended bytes
under-keeps : (strict : Bool) (f : Found) (s t : List ℕ) (at : ℕ) (vs : List ℕ) → Firm (under_by strict f s at vs)
    → under_by strict f (s ++ t) at vs ≡ under_by strict f s at vs
under-keeps strict (found r) s t at vs h = keeps strict r.body s t at vs accepted accepted (λ ws n g. refl) h
under-keeps strict none s t at vs h = refl

pub window-keeps : (rd : Reading) (s t : List ℕ) → Firm (window rd s) → window rd (s ++ t) ≡ window rd s
unfolding window
window-keeps rd s t h =
    keeps rd.strict header s t 0 [] (message rd s) (message rd (s ++ t))
    (λ vs n f. under-keeps rd.strict (find (rows_in rd) (get_or vs 1 0)) s t n (drop 1 vs ++ (get_or vs 1 0 ∷ [])) f)
    h

-- every row's size is that of its fields, counted from the tag on, and none is above 50: one test over the rows
abbrev sized : List Row → Bool
sized [] = true
sized (r ∷ rs) = (eqb r.size (11 + widths r.body) && leb r.size 50) && sized rs

abbrev pub Sized : Found → Type 0
Sized (found r) = (r.size ≡ 11 + widths r.body) × (r.size ≤ 50)
Sized none = Unit {0}

pub find-sized : (rs : List Row) → T (sized rs) → (t : ℕ) → Sized (find rs t)
find-sized [] q t = tt
find-sized (r ∷ rs) q t = go (eqb r.tag t) (find-sized rs b.1 t)
  where
    b : T (eqb r.size (11 + widths r.body) && leb r.size 50) × T (sized rs)
    b = both (eqb r.size (11 + widths r.body) && leb r.size 50) (sized rs) q

    go : (c : Bool) → Sized (find rs t) → Sized (cond c (found r) (find rs t))
    go true h =
        let p = both (eqb r.size (11 + widths r.body)) (leb r.size 50) b.0 in
        (eqb→eq r.size (11 + widths r.body) p.0, leb→le r.size 50 p.1)
    go false h = h

pub rows-sized : (t : ℕ) → Sized (find rows t)
rows-sized t = find-sized rows tt t

-- the row that a reading has for a tag, if it has one, is sized, and no larger than the tag's
rows-sized-in : (rd : Reading) (t : ℕ) → Sized (find (rows_in rd) t) × (size_in (find (rows_in rd) t) ≤ size_of t)
unfolding size_of
rows-sized-in rd t = ⊎_elim (λ e. rw e (rows-sized t, omega arith)) (λ e. rw e (tt, omega arith)) (row_in rd t)

-- values in front of an answer
firm-pre : (acc : List ℕ) (a : Answer) → Firm a → Firm (pre acc a)
firm-pre acc (accepted vs n) f e = let z : ◌≡◌ {A = ℕ} 0 1 = cc in omega arith
firm-pre acc incomplete f e = f refl
firm-pre acc (refuses n p) f e = let z : ◌≡◌ {A = ℕ} 0 1 = cc in omega arith

pub pre-accepted : (acc : List ℕ) (a : Answer) (vs : List ℕ) (n : ℕ) → pre acc a ≡ accepted vs n → (ws : List ℕ) × (a ≡ accepted ws n) × (acc ++ ws ≡ vs)
pre-accepted acc (accepted ws m) vs n e = let q : m ≡ n = cc in (ws, ap (accepted ws) q, cc)
pre-accepted acc incomplete vs n e = let z : ◌≡◌ {A = ℕ} 0 1 = cc in absurd (omega arith)
pre-accepted acc (refuses m p) vs n e = let z : ◌≡◌ {A = ℕ} 0 1 = cc in absurd (omega arith)

-- the values of the header, in front of a body's
abbrev leading : List ℕ → List ℕ
leading s = get_or s 2 0 ∷ be (part s 3 2) ∷ be (part s 5 2) ∷ be (part s 7 6) ∷ []

-- the bytes of a tag's message
under_whole : (f : Found) (s vs : List ℕ) → Sized f → 2 + size_in f ≤ length s → Firm (under f s 13 vs)
under_whole (found r) s vs z l = enough r.body s 13 vs accepted (omega arith) (λ ws n e. let y : ◌≡◌ {A = ℕ} 0 1 = cc in omega arith)
under_whole none s vs z l = λ e. let y : ◌≡◌ {A = ℕ} 0 1 = cc in omega arith

pub window-whole : (rd : Reading) (s : List ℕ) → 13 ≤ length s → 2 + size_of (get_or s 2 0) ≤ length s → Firm (window rd s)
unfolding body_in
window-whole rd s h l =
    let t : ℕ = get_or s 2 0 in
    let z = rows-sized-in rd t in
    by-reading Firm rd s
    (λ e. firm-pre (leading s) (body_in rd t s) (under_whole (find (rows_in rd) t) s (t ∷ []) z.0 (omega (arith, z.1))) (sym (window-there rd s h) ∙ e))
    (λ e. let y : ◌≡◌ {A = ℕ} 0 1 = cc in omega arith)
    (λ p e. let y : ◌≡◌ {A = ℕ} 0 1 = cc in omega arith)

-- 52 bytes
size-50 : (f : Found) → Sized f → size_in f ≤ 50
size-50 (found r) z = z.1
size-50 none z = omega arith

pub sizes-50 : (t : ℕ) → size_of t ≤ 50
unfolding size_of
sizes-50 t = size-50 (find rows t) (rows-sized t)

pub window-enough : (rd : Reading) (s : List ℕ) → 52 ≤ length s → Firm (window rd s)
window-enough rd s l = window-whole rd s (omega arith) (omega (arith, sizes-50 (get_or s 2 0)))

-- what an accepted message consumed
under-covers : (f : Found) (s us vs : List ℕ) (n : ℕ) → Sized f → 13 ≤ length s → under f s 13 us ≡ accepted vs n → (n ≡ 2 + size_in f) × (n ≤ length s) × (13 ≤ n)
under-covers (found r) s us vs n z l e =
    let a = all_read r.body s 13 us accepted vs n e in
    let h : 13 + widths r.body ≤ length s = covers a.1 l in
    let q : 13 + widths r.body ≡ n = cc a.2 in
    (omega arith, omega arith, omega arith)
under-covers none s us vs n z l e = let y : ◌≡◌ {A = ℕ} 0 1 = cc in absurd (omega arith)

in-covers : (f g : Found) (s us vs : List ℕ) (n : ℕ) → (f ≡ g) ⊎ (f ≡ none) → Sized g → 13 ≤ length s → under f s 13 us ≡ accepted vs n
    → (n ≡ 2 + size_in g) × (n ≤ length s) × (13 ≤ n)
in-covers f g s us vs n (inl h) z l e = under-covers g s us vs n z l (ap (λ x. under x s 13 us) (sym h) ∙ e)
in-covers f g s us vs n (inr h) z l e =
    let q : refuses 1 2 ≡ accepted vs n = ap (λ x. under x s 13 us) (sym h) ∙ e in
    let y : ◌≡◌ {A = ℕ} 0 1 = cc in absurd (omega arith)

-- consumed: 2 + size of the tag, which is the first value; these bytes lie within the window, and a header is among them
pub window-covers : (rd : Reading) (s vs : List ℕ) (n : ℕ) → window rd s ≡ accepted vs n
    → (n ≡ 2 + size_of (get_or vs 0 0)) × (n ≤ length s) × (13 ≤ n)
unfolding body_in size_of
window-covers rd s vs n e =
    ⊎_elim
    (λ l.
    let t : ℕ = get_or s 2 0 in
    let a = pre-accepted (leading s) (body_in rd t s) vs n (sym (window-there rd s l) ∙ ordinarily rd s vs n e) in
    let q : t ≡ get_or vs 0 0 = ap (λ ws. get_or ws 0 0) a.2 in
    rw q at (in-covers (find (rows_in rd) t) (find rows t) s (t ∷ []) a.0 n (row_in rd t) (rows-sized t) l a.1))
    (λ l. let z : ◌≡◌ {A = ℕ} 0 1 = cc (window-cut rd s l) in absurd (omega arith))
    (le-or-lt 13 (length s))

-- these bytes are accepted by themselves
window-tag : (rd : Reading) (s vs : List ℕ) (n : ℕ) → 13 ≤ length s → window rd s ≡ accepted vs n → get_or s 2 0 ≡ get_or vs 0 0
window-tag rd s vs n l e = ap (λ ws. get_or ws 0 0) (pre-accepted (leading s) (body_in rd (get_or s 2 0) s) vs n (sym (window-there rd s l) ∙ ordinarily rd s vs n e)).2

pub window-first : (rd : Reading) (s vs : List ℕ) (n : ℕ) → window rd s ≡ accepted vs n → window rd (take n s) ≡ accepted vs n
window-first rd s vs n e =
    let c = window-covers rd s vs n e in
    let l : length (take n s) ≡ n = length-take-le n s c.1 in
    let t : get_or (take n s) 2 0 ≡ get_or vs 0 0 = get_or-take n s 2 0 (omega (arith, c.2)) ∙ window-tag rd s vs n (omega (arith, c.1, c.2)) e in
    let k = window-keeps rd (take n s) (drop n s) (window-whole rd (take n s) (omega (arith, l, c.2)) (rw t (omega (arith, l, c.0)))) in
    sym k ∙ ap (window rd) (take-append-drop n s) ∙ e

-- each strict prefix of an accepted message is incomplete
pub window-prefix : (rd : Reading) (s t vs : List ℕ) (n : ℕ) → window rd (s ++ t) ≡ accepted vs n → length s < n → window rd s ≡ incomplete
window-prefix rd s t vs n e l = go (window rd s) refl
  where
    go : (a : Answer) → window rd s ≡ a → window rd s ≡ incomplete
    go incomplete q = q
    go (accepted ws m) q =
        let k : window rd (s ++ t) ≡ window rd s = window-keeps rd s t (λ x. let z : ◌≡◌ {A = ℕ} 0 1 = cc in omega arith) in
        let c : window rd s ≡ accepted vs n = cc in
        absurd (omega (arith, (window-covers rd s vs n c).1))
    go (refuses m p) q =
        let k : window rd (s ++ t) ≡ window rd s = window-keeps rd s t (λ x. let z : ◌≡◌ {A = ℕ} 0 1 = cc in omega arith) in
        let z : ◌≡◌ {A = ℕ} 0 1 = cc in absurd (omega arith)
