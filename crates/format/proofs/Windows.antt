-- A window is its header, then its body: what the code's two parts answer, put together, is the window's answer.
-- Assumes nothing.
use mathlib.Core.Path.{◌≡◌, refl, sym, ◌∙◌}
use mathlib.Core.Bool.{true, false}
use mathlib.Core.List.{List, [], ◌∷◌, ◌++◌, append_assoc}
use mathlib.Core.Logic.{⊎_elim}
use Prim.Native.Nat.{ℕ, ◌+◌, ◌<◌, ◌≤◌}
use native.Mathlib.Omega.{arith}
use borrow.Author.Tests.{le-leb, lt-leb, le-ltb}
use lib.ListN.{length, get_or, drop}
use Rattle.format.specs.Layout.{Kind, width, be, day, part, Got, got, short, refused, field, Answer, accepted, incomplete, refuses, step, read}
use Rattle.format.specs.Rows.{rows_in, Found, found, none, find, under, message, header_of, body_in, window}
use Rattle.format.specs.Strict.{ordinary, stray_of, limit_of, settle}
use Rattle.format.specs.declared.Reading.{Reading}
use Rattle.format.proofs.Tests.{le-or-lt}
use Rattle.format.proofs.Runs.{reads}
use Rattle.format.proofs.Heads.{header-cut, header-reads, header-short}
use Rattle.format.proofs.Strict.{window-strictly}

-- values in front of an answer
abbrev pub pre : List ℕ → Answer → Answer
pre acc (accepted vs n) = accepted (acc ++ vs) n
pre acc incomplete = incomplete
pre acc (refuses n p) = refuses n p

read-pre : (ks : List Kind) (s : List ℕ) (at : ℕ) (acc vs : List ℕ) → read ks s at (acc ++ vs) accepted ≡ pre acc (read ks s at vs accepted)
read-pre [] s at acc vs = refl
read-pre (k ∷ ks) s at acc vs = go (field k s at) (λ v. read-pre ks s (at + width k) acc (vs ++ (v ∷ [])))
  where
    go : (g : Got) → ((v : ℕ) → read ks s (at + width k) (acc ++ (vs ++ (v ∷ []))) accepted ≡ pre acc (read ks s (at + width k) (vs ++ (v ∷ [])) accepted))
        → step g (λ v. read ks s (at + width k) ((acc ++ vs) ++ (v ∷ [])) accepted) ≡ pre acc (step g (λ v. read ks s (at + width k) (vs ++ (v ∷ [])) accepted))
    go (got v) rest = rw (append_assoc acc vs (v ∷ [])) (rest v)
    go short rest = refl
    go (refused n p) rest = refl

under-pre : (f : Found) (s : List ℕ) (at : ℕ) (acc vs : List ℕ) → under f s at (acc ++ vs) ≡ pre acc (under f s at vs)
under-pre (found r) s at acc vs = read-pre r.body s at acc vs
under-pre none s at acc vs = refl

pre-limit : (acc s : List ℕ) (a : Answer) → limit_of s (pre acc a) ≡ limit_of s a
pre-limit acc s (accepted vs n) = refl
pre-limit acc s incomplete = refl
pre-limit acc s (refuses n p) = refl

-- a header that is all there: its values from the tag on, and the window's answer after them
header-there : (s : List ℕ) → 13 ≤ length s → header_of s ≡ accepted (get_or s 2 0 ∷ be (part s 3 2) ∷ be (part s 5 2) ∷ be (part s 7 6) ∷ []) 13
unfolding header_of
header-there s h = reads (header-reads s h) [] (λ h. accepted (drop 1 h))

pub window-there : (rd : Reading) (s : List ℕ) → 13 ≤ length s
    → window (ordinary rd) s ≡ pre (get_or s 2 0 ∷ be (part s 3 2) ∷ be (part s 5 2) ∷ be (part s 7 6) ∷ []) (body_in rd (get_or s 2 0) s)
unfolding window body_in
window-there rd s h =
    reads (header-reads s h) [] (message (ordinary rd) s)
    ∙ under-pre (find (rows_in rd) (get_or s 2 0)) s 13 (get_or s 2 0 ∷ be (part s 3 2) ∷ be (part s 5 2) ∷ be (part s 7 6) ∷ []) (get_or s 2 0 ∷ [])

pub window-cut : (rd : Reading) (s : List ℕ) → length s < 13 → window rd s ≡ incomplete
unfolding window
window-cut rd s h = header-cut rd.strict s (message rd s) h

pub window-short : (rd : Reading) (s : List ℕ) → incomplete ≡ header_of s → incomplete ≡ window rd s
window-short rd s e =
    ⊎_elim
    (λ h. let z : ◌≡◌ {A = ℕ} 0 1 = cc (header-there s h) in absurd (omega arith))
    (λ h. sym (window-cut rd s h))
    (le-or-lt 13 (length s))

-- a header that was read: it is all there, and its values are its bytes'
record Headed (s : List ℕ) (t l n ts : ℕ) : Type 0 where
  long : 13 ≤ length s
  tag : t ≡ get_or s 2 0
  locate : l ≡ be (part s 3 2)
  tracking : n ≡ be (part s 5 2)
  stamp : ts ≡ be (part s 7 6)

headed : (s : List ℕ) {t l n ts : ℕ} → accepted (t ∷ l ∷ n ∷ ts ∷ []) 13 ≡ header_of s → Headed s t l n ts
headed s e =
    ⊎_elim
    (λ h. record {
      long = h;
      tag = cc (header-there s h);
      locate = cc (header-there s h);
      tracking = cc (header-there s h);
      stamp = cc (header-there s h);
    })
    (λ h. let z : ◌≡◌ {A = ℕ} 0 1 = cc (header-short s h) in absurd (omega arith))
    (le-or-lt 13 (length s))

-- the ordinary answer behind such a header, and the answer by a reading: the ordinary one where it is not strict, and else 4 before all, or 5
ordinary-body : (rd : Reading) (s : List ℕ) {t l n ts : ℕ} → Headed s t l n ts → window (ordinary rd) s ≡ pre (t ∷ l ∷ n ∷ ts ∷ []) (body_in rd t s)
ordinary-body rd s h = rw (h.tag, h.locate, h.tracking, h.stamp) (window-there rd s h.long)

pub window-body : (rd : Reading) (s : List ℕ) {t l n ts : ℕ} → accepted (t ∷ l ∷ n ∷ ts ∷ []) 13 ≡ header_of s → rd.strict ≡ false
    → window rd s ≡ pre (t ∷ l ∷ n ∷ ts ∷ []) (body_in rd t s)
unfolding body_in
window-body rd s e f = window-strictly rd s ∙ rw f (ordinary-body rd s (headed s e))

pub window-late : (rd : Reading) (s : List ℕ) {t l n ts : ℕ} → accepted (t ∷ l ∷ n ∷ ts ∷ []) 13 ≡ header_of s → rd.strict ≡ true → day ≤ ts
    → window rd s ≡ refuses 4 7
window-late rd s e f d =
    let h = headed s e in
    window-strictly rd s ∙ rw (f, le-ltb (length s) 13 h.long, le-leb day (be (part s 7 6)) (omega (arith, h.stamp)))

pub window-settled : (rd : Reading) (s : List ℕ) {t l n ts : ℕ} → accepted (t ∷ l ∷ n ∷ ts ∷ []) 13 ≡ header_of s → rd.strict ≡ true → ts < day
    → window rd s ≡ settle (stray_of t s (limit_of s (body_in rd t s))) (pre (t ∷ l ∷ n ∷ ts ∷ []) (body_in rd t s))
unfolding body_in
window-settled rd s {t} {l} {n} {ts} e f d =
    let h = headed s e in
    window-strictly rd s
    ∙ rw (f, le-ltb (length s) 13 h.long, lt-leb day (be (part s 7 6)) (omega (arith, h.stamp)), ordinary-body rd s h, ← h.tag, pre-limit (t ∷ l ∷ n ∷ ts ∷ []) s (body_in rd t s))
