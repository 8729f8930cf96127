-- The values of a body that was read, by any reading, are those of the message made of them: what each kind of field gives, then row by row.
-- Assumes nothing.
use Prim.Native.Nat.{ℕ}
use mathlib.Core.Path.{◌≡◌, refl, sym, ap, subst, ◌∙◌}
use mathlib.Core.Bool.{Bool, true, false, cond}
use mathlib.Core.List.{List, [], ◌∷◌}
use mathlib.Core.Logic.{⊎_elim}
use native.Mathlib.Omega.{arith}
use borrow.Author.Tests.{eqb-true}
use lib.Dec.{eqb}
use Rattle.format.specs.Ascii.{'A', 'B', 'C', 'D', 'E', 'F', 'H', 'I', 'J', 'K', 'L', 'N', 'O', 'P', 'Q', 'R', 'S', 'U', 'V', 'W', 'X', 'Y', 'h'}
use Rattle.format.specs.Codes.{subtypes}
use Rattle.format.specs.Layout.{Kind, num, time, text, code, subtype, width, be, part, member, fine, judge, accepted, judge_by}
use Rattle.format.specs.Rows.{Row, rows, rows_in, Found, found, none, find, fields_in, under, body_in}
use Rattle.format.specs.declared.Reading.{Reading}
use Rattle.format.proofs.Fields.{field-fine, code-fine}
use Rattle.format.proofs.Runs.{Reads, end, ◌⨾◌}
use Rattle.laws.proofs.Rows.{all_read}
use Rattle.format.proofs.Editions.{row_in}
use Rattle.records.specs.Values.{values, body_from}
use Rattle.codes.specs.Coded.{event-coded, category-coded, status-coded, class-coded, tier-coded, maker_mode-coded, participant_state-coded, action-coded, trading_state-coded, side-coded, direction-coded, cross-coded, imbalance_cross-coded, qualifier-coded, level-coded, market-coded, halt-coded, interest-coded, flag-coded, etp_flag-coded, yes_no-coded, authenticity-coded, subtype-coded}
use Rattle.codes.proofs.Codes.{backed}

-- what a field of a kind gives
data Gives : Kind → ℕ → Type 0 where
  a-number : {w x : ℕ} → Gives (num w) x
  a-time : {x : ℕ} → Gives time x
  a-text : {w x : ℕ} → Gives (text w) x
  a-code : {set : List ℕ} {x : ℕ} → member x set ≡ true → Gives (code set) x
  a-subtype : {x : ℕ} → member x subtypes ≡ true → Gives subtype x

-- the fields of a row
data Row-gives : List Kind → List ℕ → Type 0 where
  none_left : Row-gives [] []
  ◌&◌ : {k : Kind} {ks : List Kind} {v : ℕ} {vs : List ℕ} → Gives k v → Row-gives ks vs → Row-gives (k ∷ ks) (v ∷ vs)

infixr 30 ◌&◌
-- bytes that are judged to be a value
gives : (k : Kind) (bs : List ℕ) (v : ℕ) → judge k bs ≡ fine v → Gives k v
unfolding judge_by
gives (num w) bs v e = a-number
gives time bs v e = a-time
gives (text w) bs v e = a-text
gives (code set) bs v e = let h = code-fine set (be bs) v e in a-code (rw h.1 at h.0)
gives subtype bs v e = let h = code-fine subtypes (be bs) v e in a-subtype (rw h.1 at h.0)

row_gives : {s : List ℕ} {ks : List Kind} {at : ℕ} {vs : List ℕ} → Reads s ks at vs → Row-gives ks vs
row_gives end = none_left
row_gives {s} (◌⨾◌ {k = k} {at = at} {v = v} e r) = gives k (part s at (width k)) v (field-fine k s at (sym e)).1 & row_gives r

-- ---- row by row: the values of the body made of a row's values

abbrev SameValues : ℕ → Type 0
SameValues t = (vs : List ℕ) → Row-gives (fields_in (find rows t)) vs → values (body_from (t ∷ vs)) ≡ t ∷ vs

row-A : SameValues 'A'
unfolding body_from
row-A _ (a-number & a-code s & a-number & a-text & a-number & none_left) = simp (backed _ _ _ side-coded _ s)

row-F : SameValues 'F'
unfolding body_from
row-F _ (a-number & a-code s & a-number & a-text & a-number & a-text & none_left) = simp (backed _ _ _ side-coded _ s)

row-B : SameValues 'B'
unfolding body_from
row-B _ (a-number & none_left) = refl

row-D : SameValues 'D'
unfolding body_from
row-D _ (a-number & none_left) = refl

row-C : SameValues 'C'
unfolding body_from
row-C _ (a-number & a-number & a-number & a-code y & a-number & none_left) = simp (backed _ _ _ yes_no-coded _ y)

row-E : SameValues 'E'
unfolding body_from
row-E _ (a-number & a-number & a-number & none_left) = refl

row-H : SameValues 'H'
unfolding body_from
row-H _ (a-text & a-code c & a-number & a-text & none_left) = simp (backed _ _ _ trading_state-coded _ c)

row-I : SameValues 'I'
unfolding body_from
row-I _ (a-number & a-number & a-code d & a-text & a-number & a-number & a-number & a-code x & a-number & none_left) = simp (backed _ _ _ direction-coded _ d, backed _ _ _ imbalance_cross-coded _ x)

row-J : SameValues 'J'
unfolding body_from
row-J _ (a-text & a-number & a-number & a-number & a-number & none_left) = refl

row-K : SameValues 'K'
unfolding body_from
row-K _ (a-text & a-number & a-code q & a-number & none_left) = simp (backed _ _ _ qualifier-coded _ q)

row-L : SameValues 'L'
unfolding body_from
row-L _ (a-text & a-text & a-code y & a-code m & a-code p & none_left) = simp (backed _ _ _ yes_no-coded _ y, backed _ _ _ maker_mode-coded _ m, backed _ _ _ participant_state-coded _ p)

row-N : SameValues 'N'
unfolding body_from
row-N _ (a-text & a-code i & none_left) = simp (backed _ _ _ interest-coded _ i)

row-P : SameValues 'P'
unfolding body_from
row-P _ (a-number & a-code s & a-number & a-text & a-number & a-number & none_left) = simp (backed _ _ _ side-coded _ s)

row-Q : SameValues 'Q'
unfolding body_from
row-Q _ (a-number & a-text & a-number & a-number & a-code x & none_left) = simp (backed _ _ _ cross-coded _ x)

row-R : SameValues 'R'
unfolding body_from
row-R _ (a-text & a-code c & a-code f & a-number & a-code y & a-code i & a-subtype u & a-code p & a-code h & a-code o & a-code l & a-code e & a-number & a-code v & none_left) = simp (backed _ _ _ category-coded _ c, backed _ _ _ status-coded _ f, backed _ _ _ yes_no-coded _ y, backed _ _ _ class-coded _ i, backed _ _ _ subtype-coded _ u, backed _ _ _ authenticity-coded _ p, backed _ _ _ flag-coded _ h, backed _ _ _ flag-coded _ o, backed _ _ _ tier-coded _ l, backed _ _ _ etp_flag-coded _ e, backed _ _ _ yes_no-coded _ v)

row-S : SameValues 'S'
unfolding body_from
row-S _ (a-code e & none_left) = simp (backed _ _ _ event-coded _ e)

row-U : SameValues 'U'
unfolding body_from
row-U _ (a-number & a-number & a-number & a-number & none_left) = refl

row-V : SameValues 'V'
unfolding body_from
row-V _ (a-number & a-number & a-number & none_left) = refl

row-W : SameValues 'W'
unfolding body_from
row-W _ (a-code l & none_left) = simp (backed _ _ _ level-coded _ l)

row-X : SameValues 'X'
unfolding body_from
row-X _ (a-number & a-number & none_left) = refl

row-Y : SameValues 'Y'
unfolding body_from
row-Y _ (a-text & a-code a & none_left) = simp (backed _ _ _ action-coded _ a)

row-h : SameValues 'h'
unfolding body_from
row-h _ (a-text & a-code m & a-code a & none_left) = simp (backed _ _ _ market-coded _ m, backed _ _ _ halt-coded _ a)

row-O : SameValues 'O'
unfolding body_from
row-O _ (a-text & a-code y & a-number & a-number & a-number & a-number & a-number & a-number & none_left) = simp (backed _ _ _ yes_no-coded _ y)

data Each (P : ℕ → Type 0) : List Row → Type 0 where
  no_rows : Each P []
  ◌and◌ : {r : Row} {rs : List Row} → P r.tag → Each P rs → Each P (r ∷ rs)

infixr 20 ◌and◌
every-row : Each SameValues rows
every-row =
    row-A
    and row-F
    and row-B
    and row-D
    and row-C
    and row-E
    and row-H
    and row-I
    and row-J
    and row-K
    and row-L
    and row-N
    and row-P
    and row-Q
    and row-R
    and row-S
    and row-U
    and row-V
    and row-W
    and row-X
    and row-Y
    and row-h
    and row-O
    and no_rows

-- the row that was found is one of them
one-row : (P : ℕ → Type 0) (rs : List Row) → Each P rs → (t : ℕ) {r : Row} → find rs t ≡ found r → P t
one-row P [] no_rows t e = let z : ◌≡◌ {A = ℕ} 0 1 = cc in absurd (omega arith)
one-row P (r ∷ rs) (p and ps) t {r = r'} e = go (eqb r.tag t) refl e (λ d. one-row P rs ps t d)
  where
    go : (b : Bool) → eqb r.tag t ≡ b → cond b (found r) (find rs t) ≡ found r' → (find rs t ≡ found r' → P t) → P t
    go true q d rest = subst P (eqb-true r.tag t q) p
    go false q d rest = rest d

-- so of every body that was read
under-again : (f : Found) (s : List ℕ) (t : ℕ) (ws : List ℕ) (n : ℕ) → ((r : Row) → f ≡ found r → (vs : List ℕ) → Row-gives (fields_in f) vs → values (body_from (t ∷ vs)) ≡ t ∷ vs)
    → under f s 13 (t ∷ []) ≡ accepted ws n → values (body_from ws) ≡ ws
under-again (found r) s t ws n h e =
    let a = all_read r.body s 13 (t ∷ []) accepted ws n e in
    let q : t ∷ a.0 ≡ ws = cc a.2 in
    rw q at (h r refl a.0 (row_gives a.1))
under-again none s t ws n h e = let z : ◌≡◌ {A = ℕ} 0 1 = cc in absurd (omega arith)

pub body-again : (rd : Reading) (t : ℕ) (s ws : List ℕ) (n : ℕ) → body_in rd t s ≡ accepted ws n → values (body_from ws) ≡ ws
unfolding body_in
body-again rd t s ws n e =
    ⊎_elim
    (λ q. under-again (find rows t) s t ws n (λ r p vs g. one-row SameValues rows every-row t {r = r} p vs g) (row_is q))
    (λ q. let d = row_is q in let z : ◌≡◌ {A = ℕ} 0 1 = cc in absurd (omega arith))
    (row_in rd t)
  where
    row_is : {f : Found} → find (rows_in rd) t ≡ f → under f s 13 (t ∷ []) ≡ accepted ws n
    row_is q = sym (ap (λ (f : Found). under f s 13 (t ∷ [])) q) ∙ e
