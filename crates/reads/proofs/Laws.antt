-- The laws of lists of cases: a read stands within its list, and a case's end too.
-- Assumes nothing.
use Prim.Native.Nat.{ℕ, zero, suc, min, ◌+◌, ◌-◌, ◌≤◌}
use mathlib.Core.Bool.{Bool, true, false, false≢true}
use mathlib.Core.List.{List, []}
use mathlib.Core.Path.{◌≡◌, refl, sym}
use native.Mathlib.Omega.{arith}
use Rattle.std.proofs.lemmas.Grind.{common_steps}
use borrow.Author.Tests.{eqb-true, leb-true, ltb-false}
use lib.Dec.{eqb, ltb, leb}
use lib.ListN.{length, drop, length-drop}
use Rattle.reads.specs.declared.Place.{Place}
use Rattle.reads.specs.Reads.{head_of, closes, is_read, brings_of, past_reads, case_end_of, due_of, fails_of, held_of, brought_of}

-- a read stands within its list
pub read-inside : (t : List ℕ) → is_read t ≡ true → 2 + brings_of t ≤ length t
unfolding is_read brings_of
read-inside t e = go (ltb (length t) 2) refl (ltb 8192 (head_of t)) refl
  where
    go : (a : Bool) → ltb (length t) 2 ≡ a → (b : Bool) → ltb 8192 (head_of t) ≡ b → 2 + brings_of t ≤ length t
    go true x b y =
        let z : ◌≡◌ {A = Bool} false true = rw x at e in
        absurd (false≢true z)
    go false x true y = rw y (omega (arith, ltb-false (length t) 2 x))
    go false x false y =
        let z : leb (head_of t) (length t - 2) ≡ true = rw (x, y) at e in
        rw y (omega (arith, ltb-false (length t) 2 x, leb-true (head_of t) (length t - 2) z))

pub read-far : (s : List ℕ) (i : ℕ) → is_read (drop i s) ≡ true → i + 2 + brings_of (drop i s) ≤ length s
read-far s i e = omega (arith, rw length-drop at (read-inside (drop i s) e))

-- behind some of the reads from a place on: what stands behind the others is what stands behind all
pub record Passing (list : List ℕ) (from : ℕ) (t : List ℕ) : Type 0 where
  pub inside : length t ≤ length list
  pub fuel : ℕ
  pub enough : length t ≤ fuel
  pub same : past_reads fuel t ≡ past_reads (length list) (drop from list)

module _ (list : List ℕ) (from : ℕ) where
  pub passing-none : Passing list from (drop from list)
  passing-none = record { inside = omega (arith, length-drop from list); fuel = length list; enough = omega (arith, length-drop from list); same = refl }

  pub passing-more : (t : List ℕ) → Passing list from t → is_read t ≡ true → Passing list from (drop (2 + brings_of t) t)
  unfolding past_reads
  passing-more t p e = go p.fuel p.enough p.same
    where
      less : length (drop (2 + brings_of t) t) + 2 ≤ length t
      less = omega (arith, length-drop (2 + brings_of t) t, read-inside t e)

      go : (k : ℕ) → length t ≤ k → past_reads k t ≡ past_reads (length list) (drop from list) → Passing list from (drop (2 + brings_of t) t)
      go zero n s = absurd (omega (arith, less))
      go (suc k) n s = record { inside = omega (arith, less, p.inside); fuel = k; enough = omega (arith, less); same = rw e at s }

  pub passing-end : (t : List ℕ) → Passing list from t → is_read t ≡ false → past_reads (length list) (drop from list) ≡ t
  unfolding past_reads
  passing-end t p e = go p.fuel p.same
    where
      go : (k : ℕ) → past_reads k t ≡ past_reads (length list) (drop from list) → past_reads (length list) (drop from list) ≡ t
      go zero s = sym s
      go (suc k) s = sym (rw e at s)

  pub case-closed : (t : List ℕ) → Passing list from t → is_read t ≡ false → closes t ≡ true → case_end_of list from ≡ length list - length t + 2
  unfolding case_end_of
  case-closed t p e z = rw (passing-end t p e, z)

  pub case_open : (t : List ℕ) → Passing list from t → is_read t ≡ false → closes t ≡ false → case_end_of list from ≡ from
  unfolding case_end_of
  case_open t p e z = rw (passing-end t p e, z)

-- a case's end stands within its list
past-inside : (k : ℕ) (t : List ℕ) → length (past_reads k t) ≤ length t
unfolding past_reads
past-inside zero t = omega arith
past-inside (suc k) t = go (λ u. past-inside k u) (is_read t) refl
  where
    go : ((u : List ℕ) → length (past_reads k u) ≤ length u) → (b : Bool) → is_read t ≡ b → length (past_reads (suc k) t) ≤ length t
    go ih true e =
        let u = drop (2 + brings_of t) t in
        rw e (omega (arith, ih u, length-drop (2 + brings_of t) t))
    go ih false e = rw e (omega arith)

pub closes-inside : (t : List ℕ) → closes t ≡ true → 2 ≤ length t
unfolding closes
closes-inside t e = go (ltb (length t) 2) refl
  where
    go : (b : Bool) → ltb (length t) 2 ≡ b → 2 ≤ length t
    go true x =
        let z : ◌≡◌ {A = Bool} false true = rw x at e in
        absurd (false≢true z)
    go false x = ltb-false (length t) 2 x

pub case-end-inside : (list : List ℕ) (from : ℕ) → from ≤ length list → case_end_of list from ≤ length list
unfolding case_end_of
case-end-inside list from h = go (closes rest) refl
  where
    rest : List ℕ
    rest = past_reads (length list) (drop from list)

    go : (b : Bool) → closes rest ≡ b → case_end_of list from ≤ length list
    go true e = rw e (omega (arith, closes-inside rest e, past-inside (length list) (drop from list), length-drop from list))
    go false e = rw e h

-- the bytes that are held stand before their place, within the list
pub held-before : (list : List ℕ) (d : Place) → (held_of list d ≤ d.i) × (1 ≤ held_of list d → d.i ≤ length list)
unfolding held_of
held-before list d = go (ltb d.i d.left) refl (ltb (length list) d.i) refl
  where
    go : (a : Bool) → ltb d.i d.left ≡ a → (b : Bool) → ltb (length list) d.i ≡ b → (held_of list d ≤ d.i) × (1 ≤ held_of list d → d.i ≤ length list)
    go true x b y = rw x (omega arith, λ h. absurd (omega arith))
    go false x true y = rw (x, y) (omega arith, λ h. absurd (omega arith))
    go false x false y = rw (x, y) (ltb-false d.i d.left x, λ h. ltb-false (length list) d.i y)

-- a read that fails holds no bytes
pub fails-empty : (list : List ℕ) (p : Place) → fails_of list p ≡ true → held_of list (due_of list p) ≡ 0
unfolding fails_of due_of held_of brings_of
fails-empty list p e = go (ltb 0 p.left) refl (is_read t) refl
  where
    t : List ℕ
    t = drop p.i list

    go : (a : Bool) → ltb 0 p.left ≡ a → (b : Bool) → is_read t ≡ b → held_of list (due_of list p) ≡ 0
    go true x b y =
        let z : ◌≡◌ {A = Bool} false true = rw x at e in
        absurd (false≢true z)
    go false x false y =
        let z : ◌≡◌ {A = Bool} false true = rw (x, y) at e in
        absurd (false≢true z)
    go false x true y =
        let z : eqb (head_of t) 0xfffe ≡ true = rw (x, y) at e in
        let h : head_of t ≡ 0xfffe = eqb-true _ _ z in
        rw (x, y, h) (grind (arith, common_steps))

pub brings-none : (list : List ℕ) (p : Place) (room : ℕ) → fails_of list p ≡ true → brought_of list p room ≡ []
unfolding brought_of
brings-none list p room e =
    let z : min 0 room ≡ 0 = omega arith in
    rw (fails-empty list p e, z)
