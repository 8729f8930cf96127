-- A window from its parts: what the header's and the body's answers say of the window's.
-- Assumes nothing.
use mathlib.Core.Path.{◌≡◌, refl, sym, ap, ◌∙◌}
use mathlib.Core.Bool.{true, false, ◌&&◌}
use mathlib.Core.List.{List, [], ◌∷◌}
use Prim.Native.Nat.{ℕ, min}
use Rattle.std.proofs.Common.{Option, Some, None, Result, Err}
use native.Mathlib.Omega.{arith}
use borrow.Author.Tests.{leb-true, leb-false, ne_eqb}
use lib.Dec.{leb}
use lib.ListN.{length}
use Rattle.format.specs.Layout.{day, accepted, incomplete, refuses}
use Rattle.format.specs.Rows.{header_of, body_in, window}
use Rattle.format.specs.declared.Reading.{Reading}
use Rattle.format.specs.Strict.{stray_of, limit_of, settle}
use Rattle.format.specs.Meaning.{header_m, stop_m}
use Rattle.format.specs.declared.Fault.{Fault}
use Rattle.format.specs.declared.Fault.TheVariants.{Short, Refused}
use Rattle.format.specs.declared.Header.{Header}
use Rattle.format.proofs.Tests.{and_split}
use Rattle.format.proofs.Windows.{pre, window-short, window-body, window-late, window-settled}
use Rattle.records.specs.declared.Body.{Body}
use Rattle.records.specs.Values.{body_m}
use Rattle.reader.specs.Strays.{reach_of, Strays}

abbrev heads : Header → List ℕ
heads x = x.tag ∷ x.stock_locate ∷ x.tracking_number ∷ x.timestamp ∷ []

pub no_header : (rd : Reading) (s : List ℕ) {h : Option Header} → header_m h ≡ header_of s → h ≡ None → incomplete ≡ window rd s
no_header rd s p q = window-short rd s (sym (ap header_m q) ∙ p)

-- the header is there, and the body was read as y
pub record Read (rd : Reading) (s : List ℕ) (x : Header) (y : Result (Body × ℕ) Fault) : Type 0 where
  head : accepted (heads x) 13 ≡ header_of s
  body : body_m y ≡ body_in rd x.tag s

pub was_read : (rd : Reading) (s : List ℕ) {h : Option Header} {x : Header} {b y : Result (Body × ℕ) Fault} → header_m h ≡ header_of s → h ≡ Some x
    → body_m b ≡ body_in rd x.tag s → b ≡ y → Read rd s x y
was_read rd s p q r e = record { head = sym (ap header_m q) ∙ p; body = ap body_m (sym e) ∙ r }

-- the window's answer is then the header's values before the body's answer, where the reading is not strict
pub ordinary : (rd : Reading) (s : List ℕ) {x : Header} {y : Result (Body × ℕ) Fault} → Read rd s x y → rd.strict ≡ false → pre (heads x) (body_m y) ≡ window rd s
ordinary rd s {x = x} a f = sym (window-body rd s a.head f ∙ ap (pre (heads x)) (sym a.body))

-- and where it is strict: 4, whatever the body is; else 5, where a text before anything refused strays; else the same
pub too-late : (rd : Reading) (s : List ℕ) {h : Option Header} {x : Header} → header_m h ≡ header_of s → h ≡ Some x
    → (rd.strict && leb day x.timestamp) ≡ true → refuses 4 7 ≡ window rd s
too-late rd s p q t =
    let d = and_split _ _ t in
    sym (window-late rd s (sym (ap header_m q) ∙ p) d.0 (leb-true _ _ d.1))

settled : (rd : Reading) (s : List ℕ) {x : Header} {y : Result (Body × ℕ) Fault} → Read rd s x y → rd.strict ≡ true → (rd.strict && leb day x.timestamp) ≡ false
    → window rd s ≡ settle (stray_of x.tag s (limit_of s (body_m y))) (pre (heads x) (body_m y))
settled rd s {x = x} {y = y} a f t =
    let d : leb day x.timestamp ≡ false = rw f at t in
    window-settled rd s a.head f (leb-false _ _ d) ∙ ap (λ z. settle (stray_of x.tag s (limit_of s z)) (pre (heads x) z)) (sym a.body)

-- and where it is asked, of the texts up to the limit: one strays, or none does
pub strayed : (rd : Reading) (s : List ℕ) (limit : ℕ) {x : Header} {y : Result (Body × ℕ) Fault} {e : Fault} → Read rd s x y → rd.strict ≡ true
    → (rd.strict && leb day x.timestamp) ≡ false → limit_of s (body_m y) ≡ min limit (length s)
    → Strays (stray_of x.tag s (min limit (length s))) e → stop_m e ≡ window rd s
strayed rd s limit a f t l h = ap stop_m h.1 ∙ sym (settled rd s a f t ∙ rw l (rw (ne_eqb _ _ h.0)))

pub unstrayed : (rd : Reading) (s : List ℕ) (limit : ℕ) {x : Header} {y : Result (Body × ℕ) Fault} → Read rd s x y → rd.strict ≡ true
    → (rd.strict && leb day x.timestamp) ≡ false → limit_of s (body_m y) ≡ min limit (length s)
    → stray_of x.tag s (min limit (length s)) ≡ 0 → pre (heads x) (body_m y) ≡ window rd s
unstrayed rd s limit a f t l z = sym (settled rd s a f t ∙ rw (l, z))

-- the place up to which a body without a value was read is where its texts end
pub reached : (s : List ℕ) (e : Fault) {limit : ℕ} → limit ≡ reach_of e (length s) → limit_of s (stop_m e) ≡ min limit (length s)
reached s Short h = omega arith
reached s (Refused r) h = rw h

-- the same of a body that has no value: values in front of it are none
pre-fault : (vs : List ℕ) (e : Fault) → pre vs (stop_m e) ≡ stop_m e
pre-fault vs Short = refl
pre-fault vs (Refused r) = refl

pub unread : (rd : Reading) (s : List ℕ) {x : Header} {e : Fault} → Read rd s x (Err e) → rd.strict ≡ false → stop_m e ≡ window rd s
unread rd s {x = x} {e = e} a f = sym (pre-fault (heads x) e) ∙ ordinary rd s a f

pub unread-unstrayed : (rd : Reading) (s : List ℕ) (limit : ℕ) {x : Header} {e : Fault} → Read rd s x (Err e) → rd.strict ≡ true
    → (rd.strict && leb day x.timestamp) ≡ false → limit ≡ reach_of e (length s) → stray_of x.tag s (min limit (length s)) ≡ 0 → stop_m e ≡ window rd s
unread-unstrayed rd s limit {x = x} {e = e} a f t l z = sym (pre-fault (heads x) e) ∙ unstrayed rd s limit a f t (reached s e l) z
