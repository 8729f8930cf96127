-- The table's laws: the number of a row, that the codes ascend, and so what a search by halves knows at each step and in the end.
-- Assumes nothing.
use Prim.Native.Nat.{ℕ, zero, suc, ◌≤◌, ◌<◌}
use mathlib.Core.Path.{◌≡◌, refl, sym, ap, ◌∙◌}
use mathlib.Core.Bool.{Bool, true, false, cond, ◌&&◌}
use mathlib.Core.List.{List, [], ◌∷◌}
use mathlib.Core.Logic.{◌⊎◌, inl, inr}
use native.Mathlib.Nat.{le_refl, le_of_lt, lt_trans, le_of_suc-le-suc}
use native.Mathlib.Omega.{arith}
use lib.Dec.{T, eqb, ltb, ltb→lt}
use lib.ListN.{length, get_or, get_or-map, length-map}
use borrow.Author.Tests.{eqb-true, eqb-false, lt-ltb, le-ltb}
use Rattle.std.specs.Prelude.{Some, None, Result, Ok, Err}
use Rattle.std.specs.Ordering.{nat_cmp, ordering_index}
use Rattle.std.specs.declared.cmp.Ordering.TheVariants.{Less, Equal, Greater}
use Rattle.std.specs.Result.{result_ok}
use Rattle.std.specs.List.Sorted.{IsBinarySearchResult, IsSearchInRange, IsNonDecreasingBy}
use Rattle.std.proofs.lemmas.Bool.Decides.{nat_tests}
use Rattle.std.proofs.lemmas.List.Sorted.{IsNonDecreasingBy-from_default}
use Rattle.format.specs.Codes.{subtypes}
use Rattle.format.specs.Layout.{be, member}
use Rattle.format.proofs.Tests.{both, le-or-lt}
use Rattle.subtypes.specs.Rows.{Listed, index_in, row_in}
use Rattle.subtypes.proofs.Index.{Stands, stands, stands-first, stands-member}

-- which number a row is in the table
pub listed : (rows : List (List ℕ)) (i : ℕ) → Listed rows → be (get_or rows i []) ≡ get_or subtypes i 0
listed rows i e = sym (get_or-map be rows i []) ∙ ap (λ ks. get_or ks i 0) e

-- each number of a list is below the next, and so below every later one
abbrev ascends : List ℕ → Bool
ascends [] = true
ascends (a ∷ []) = true
ascends (a ∷ b ∷ ks) = ltb a b && ascends (b ∷ ks)

climbs : (ks : List ℕ) (i j : ℕ) → T (ascends ks) → i < j → j < length ks → get_or ks i 0 < get_or ks j 0
climbs [] i j t h k = omega arith
climbs (a ∷ []) i j t h k = omega arith
climbs (a ∷ b ∷ ks) zero (suc zero) t h k = ltb→lt a b (both (ltb a b) (ascends (b ∷ ks)) t).0
climbs (a ∷ b ∷ ks) zero (suc (suc j)) t h k =
    let p = both (ltb a b) (ascends (b ∷ ks)) t in
    lt_trans (ltb→lt a b p.0) (climbs (b ∷ ks) zero (suc j) p.1 (omega arith) (le_of_suc-le-suc k))
climbs (a ∷ b ∷ ks) (suc i) (suc j) t h k = climbs (b ∷ ks) i j (both (ltb a b) (ascends (b ∷ ks)) t).1 (le_of_suc-le-suc h) (le_of_suc-le-suc k)
climbs (a ∷ b ∷ ks) i zero t h k = omega arith

-- the codes: they ascend, and are 58
pub codes-ascend : (i j : ℕ) → i < j → j < 58 → get_or subtypes i 0 < get_or subtypes j 0
unfolding subtypes
codes-ascend i j h k = climbs subtypes i j tt h k

codes-rise : (i j : ℕ) → i ≤ j → j < 58 → get_or subtypes i 0 ≤ get_or subtypes j 0
codes-rise i j h k = go (eqb i j) refl
  where
    go : (t : Bool) → eqb i j ≡ t → get_or subtypes i 0 ≤ get_or subtypes j 0
    go true e = rw (eqb-true i j e) (le_refl _)
    go false e = let n = eqb-false i j e in le_of_lt (codes-ascend i j (omega (arith, h, n)) k)

pub codes-count : length subtypes ≡ 58
unfolding subtypes
codes-count = refl

-- what a search by halves says of the rows: a row of v, or where v would stand, between the rows below it and those above
same : (x v : ℕ) → nat_cmp x v ≡ Equal → x ≡ v
same x v e = grind (arith, nat_tests)

apart : (x v : ℕ) → (nat_cmp x v ≡ Less) ⊎ (nat_cmp x v ≡ Greater) → x ≡ v → ⊥
apart x v (inl h) e = grind (arith, nat_tests)
apart x v (inr h) e = grind (arith, nat_tests)

rises : (x y v : ℕ) → x ≤ y → ordering_index (nat_cmp x v) ≤ ordering_index (nat_cmp y v)
rises x y v h = grind (arith, nat_tests)

rows-count : (rows : List (List ℕ)) → Listed rows → length rows ≡ 58
rows-count rows e = (simp length-map at (ap length e)) ∙ codes-count

row-found : (v i : ℕ) → i < 58 → get_or subtypes i 0 ≡ v → Some i ≡ row_in v subtypes
row-found v i h e = go (stands v subtypes) (stands-first v subtypes i (omega (arith, codes-count)) e)
  where
    go : Stands v subtypes → index_in v subtypes ≤ i → Some i ≡ row_in v subtypes
    go (inl k) q =
        let r : i ≤ index_in v subtypes = up (le-or-lt i (index_in v subtypes)) in
        let o : i ≡ index_in v subtypes = omega (arith, q, r) in
        ap Some o ∙ sym (ap (λ t. cond t (Some (index_in v subtypes)) None) (lt-ltb _ _ k.0))
      where
        up : (i ≤ index_in v subtypes) ⊎ (index_in v subtypes < i) → i ≤ index_in v subtypes
        up (inl l) = l
        up (inr l) = let r = codes-ascend (index_in v subtypes) i l h in omega (arith, r, e, k.1)
    go (inr k) q = absurd (omega (arith, codes-count, k, q, h))

row-missed : (v : ℕ) → ((i : ℕ) → i < 58 → get_or subtypes i 0 ≡ v → ⊥) → None ≡ row_in v subtypes
row-missed v n = go (stands v subtypes)
  where
    go : Stands v subtypes → None ≡ row_in v subtypes
    go (inl k) = absurd (n (index_in v subtypes) (omega (arith, codes-count, k.0)) k.1)
    go (inr k) = sym (ap (λ t. cond t (Some (index_in v subtypes)) None) (le-ltb _ _ (omega (arith, k))))

pub row-searched : (rows : List (List ℕ)) (v : ℕ) (r : Result ℕ ℕ) → Listed rows → IsSearchInRange r (length rows)
    → IsBinarySearchResult (λ y. nat_cmp (be y) v) rows r → result_ok r ≡ row_in v subtypes
row-searched rows v (Ok i) e h at =
    let n = rows-count rows e in
    row-found v i (omega (arith, n, h)) (sym (listed rows i e) ∙ same _ v (at []))
row-searched rows v (Err i) e h at =
    row-missed v (λ k l q. apart _ v (side k l (le-or-lt i k)) (listed rows k e ∙ q))
  where
    n : length rows ≡ 58
    n = rows-count rows e

    up : IsNonDecreasingBy (λ y. ordering_index (nat_cmp (be y) v)) rows
    up = IsNonDecreasingBy-from_default (λ y. ordering_index (nat_cmp (be y) v)) rows [] (λ a b l m.
        rises _ _ v (rw (listed rows a e, listed rows b e) (codes-rise a b l (omega (arith, m, n)))))

    side : (k : ℕ) → k < 58 → (i ≤ k) ⊎ (k < i) → (nat_cmp (be (get_or rows k [])) v ≡ Less) ⊎ (nat_cmp (be (get_or rows k [])) v ≡ Greater)
    side k l (inl g) = inr ((at up).1 k [] g (omega (arith, l, n)))
    side k l (inr g) = inl ((at up).0 k [] (omega arith) g)

-- whether two bytes are a code is seen from their row, and the row has them
pub row-is-code : (v : ℕ) {row : ℕ} → Some row ≡ row_in v subtypes → (row < 58) × (member v subtypes ≡ true) × (get_or subtypes row 0 ≡ v)
row-is-code v {row} e = go (stands v subtypes)
  where
    go : Stands v subtypes → (row < 58) × (member v subtypes ≡ true) × (get_or subtypes row 0 ≡ v)
    go (inl k) =
        let s : Some row ≡ Some (index_in v subtypes) = e ∙ ap (λ t. cond t (Some (index_in v subtypes)) None) (lt-ltb _ _ k.0) in
        let r : row ≡ index_in v subtypes = cc in
        (omega (arith, codes-count, k.0, r), stands-member v subtypes ∙ lt-ltb _ _ k.0, rw r k.1)
    go (inr k) =
        let s : Some row ≡ None = e ∙ ap (λ t. cond t (Some (index_in v subtypes)) None) (le-ltb _ _ (omega (arith, k))) in
        cc

pub row-is-none : (v : ℕ) → None ≡ row_in v subtypes → member v subtypes ≡ false
row-is-none v e = go (stands v subtypes)
  where
    go : Stands v subtypes → member v subtypes ≡ false
    go (inl k) =
        let s : None ≡ Some (index_in v subtypes) = e ∙ ap (λ t. cond t (Some (index_in v subtypes)) None) (lt-ltb _ _ k.0) in
        cc
    go (inr k) = stands-member v subtypes ∙ le-ltb _ _ (omega (arith, k))
