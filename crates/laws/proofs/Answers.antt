-- The same laws of the reader's answer itself, `window_of`: what the layers above cite.
-- Assumes nothing.
use mathlib.Core.Path.{◌≡◌, refl, sym, ap, subst, ◌∙◌}
use mathlib.Core.Bool.{Bool, true, false, cond}
use mathlib.Core.List.{List, ◌++◌}
use Prim.Native.Nat.{ℕ, ◌+◌, ◌≤◌, ◌<◌}
use native.Mathlib.Omega.{arith}
use lib.ListN.{length, take, get_or}
use Rattle.std.specs.Prelude.{Ok, Err}
use Rattle.format.specs.Layout.{Answer, accepted, incomplete, refuses}
use Rattle.format.specs.Rows.{size_of, window}
use Rattle.format.specs.Strict.{ordinary, stricter as made}
use Rattle.format.specs.declared.Reading.{Reading}
use Rattle.format.proofs.Strict.{window-strictly, by-reading}
use Rattle.format.specs.declared.Fault.TheVariants.{Short, Refused}
use Rattle.records.specs.declared.Message.{Message}
use Rattle.reader.specs.Window.{window_from, window_of, Stricter, same, four, five, Window}
use Rattle.reader.proofs.Back.{same-accepted}
use Rattle.laws.proofs.Rows.{Firm}
use Rattle.laws.proofs.Window.{window-keeps, window-enough, window-covers, window-first, window-prefix}

-- an answer is incomplete exactly where its meaning is
firm : (a : Answer) → (window_from a ≡ Err Short → ⊥) → Firm a
firm a h e = h (ap window_from e)

incomplete-from : (a : Answer) → window_from a ≡ Err Short → a ≡ incomplete
incomplete-from (accepted vs n) e = let z : ◌≡◌ {A = ℕ} 0 1 = cc in absurd (omega arith)
incomplete-from incomplete e = refl
incomplete-from (refuses n p) e = let z : ◌≡◌ {A = ℕ} 0 1 = cc in absurd (omega arith)

accepted-from : (a : Answer) (m : Message) (n : ℕ) → window_from a ≡ Ok (m, n) → (vs : List ℕ) × (a ≡ accepted vs n) × (get_or vs 0 0 ≡ m.tag)
accepted-from (accepted vs k) m n e = (vs, ap (accepted vs) (same-accepted e).1, tags e)
  where
    tag_of : Window → ℕ
    tag_of (Ok (m, n)) = m.tag
    tag_of (Err Short) = 0
    tag_of (Err (Refused r)) = 0

    tags : window_from (accepted vs k) ≡ Ok (m, n) → get_or vs 0 0 ≡ m.tag
    tags e = ap tag_of e
accepted-from incomplete m n e = let z : ◌≡◌ {A = ℕ} 0 1 = cc in absurd (omega arith)
accepted-from (refuses k p) m n e = let z : ◌≡◌ {A = ℕ} 0 1 = cc in absurd (omega arith)

-- appended bytes change nothing of an acceptance or a refusal
pub keeps : (rd : Reading) (s t : List ℕ) → (window_of rd s ≡ Err Short → ⊥) → window_of rd (s ++ t) ≡ window_of rd s
unfolding window_of
keeps rd s t h = ap window_from (window-keeps rd s t (firm (window rd s) h))

-- 52 bytes are never incomplete
pub enough : (rd : Reading) (s : List ℕ) → 52 ≤ length s → window_of rd s ≡ Err Short → ⊥
unfolding window_of
enough rd s l e = window-enough rd s l (incomplete-from (window rd s) e)

-- an accepted message consumed 2 + size of its tag; these bytes lie within the window, and a header is among them
pub covers : (rd : Reading) (s : List ℕ) (m : Message) (n : ℕ) → window_of rd s ≡ Ok (m, n) → (n ≡ 2 + size_of m.tag) × (n ≤ length s) × (13 ≤ n)
unfolding window_of
covers rd s m n e =
    let a = accepted-from (window rd s) m n e in
    rw a.2 at (window-covers rd s a.0 n a.1)

-- these bytes are accepted by themselves
pub first : (rd : Reading) (s : List ℕ) (m : Message) (n : ℕ) → window_of rd s ≡ Ok (m, n) → window_of rd (take n s) ≡ Ok (m, n)
unfolding window_of
first rd s m n e =
    let a = accepted-from (window rd s) m n e in
    ap window_from (window-first rd s a.0 n a.1) ∙ sym (ap window_from a.1) ∙ e

-- each strict prefix of an accepted message is incomplete
pub prefix : (rd : Reading) (s t : List ℕ) (m : Message) (n : ℕ) → window_of rd (s ++ t) ≡ Ok (m, n) → length s < n → window_of rd s ≡ Err Short
unfolding window_of
prefix rd s t m n e l =
    let a = accepted-from (window rd (s ++ t)) m n e in
    ap window_from (window-prefix rd s t a.0 n a.1 l)

-- an answer by any reading is the ordinary one, or, where the reading is strict, 4 or 5; so an acceptance is an ordinary one, of the same record and bytes
pub stricter : (rd : Reading) (s : List ℕ) → Stricter rd (window_of (ordinary rd) s) (window_of rd s)
unfolding window_of
stricter rd s = go rd.strict refl
  where
    go : (b : Bool) → rd.strict ≡ b → Stricter rd (window_from (window (ordinary rd) s)) (window_from (window rd s))
    go true e = by-reading (λ a. Stricter rd (window_from (window (ordinary rd) s)) (window_from a)) rd s same (four e) (λ p. five e)
    go false e =
        let q : window rd s ≡ window (ordinary rd) s = window-strictly rd s ∙ ap (λ b. cond b (made s (window (ordinary rd) s)) (window (ordinary rd) s)) e in
        subst (λ a. Stricter rd (window_from (window (ordinary rd) s)) (window_from a)) (sym q) same

pub ordinarily : (rd : Reading) (s : List ℕ) (m : Message) (n : ℕ) → window_of rd s ≡ Ok (m, n) → window_of (ordinary rd) s ≡ Ok (m, n)
ordinarily rd s m n e = go (window_of rd s) (stricter rd s) e
  where
    go : (w : Window) → Stricter rd (window_of (ordinary rd) s) w → w ≡ Ok (m, n) → window_of (ordinary rd) s ≡ Ok (m, n)
    go _ same e = e
    go _ (four h) e = let z : ◌≡◌ {A = ℕ} 0 1 = cc in absurd (omega arith)
    go _ (five h) e = let z : ◌≡◌ {A = ℕ} 0 1 = cc in absurd (omega arith)
