-- An add order is what A has, put, and then the mpid, if there is one.
-- Assumes nothing.
use mathlib.Core.Path.{◌≡◌, refl, sym, ap, ◌∙◌, subst}
use mathlib.Core.List.{List}
use Rattle.std.proofs.Common.{Option, Some, None}
use Prim.Native.Nat.{ℕ, ◌^◌, ◌<◌}
use lib.ListN.{drop}
use Rattle.format.specs.Rows.{order}
use Rattle.pen.specs.Encode.{digits, put_in, layout, PutBody}
use Rattle.pen.proofs.Puts.{Puts, puts}
use Rattle.records.specs.declared.AddOrder.{AddOrder}
use Rattle.records.specs.Values.{order_values}
use Rattle.put_bodies.specs.Mpids.{PutMpid}

-- the two arms of `put_mpid`
pub put-none : (s : List ℕ) (p : Option ℕ) → p ≡ None → PutMpid s p s
put-none s p q = subst (λ x. PutMpid s x s) (sym q) refl

pub put_some : (s : List ℕ) (p : Option ℕ) (v : ℕ) {u : List ℕ} → p ≡ Some v → (u ≡ put_in s 38 (digits 4 v)) × (v < 256 ^ 4) → PutMpid s p u
put_some s p v {u} q e = subst (λ x. PutMpid s x u) (sym q) e

-- the fields that A has, then the mpid
pub order-puts : (s : List ℕ) (a : AddOrder) (p : Option ℕ) {t u : List ℕ} → Puts s 13 order (drop 1 (order_values a None)) t → PutMpid t p u
    → PutBody s (order_values a p) u
unfolding layout
order-puts s a None q e =
    let g = puts s 13 order (drop 1 (order_values a None)) q in
    (e ∙ g.0, g.1)
order-puts s a (Some m) q e =
    let g = puts s 13 order (drop 1 (order_values a None)) q in
    let z = g.1 in
    (e.0 ∙ ap (λ l. put_in l 38 (digits 4 m)) g.0, (z.0, (z.1.0, (z.1.1.0, (z.1.1.1.0, (z.1.1.1.1.0, (e.1, tt)))))))
