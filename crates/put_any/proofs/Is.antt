-- A body that is known is put as the one that it is.
-- Assumes nothing.
use mathlib.Core.Path.{◌≡◌, sym, subst}
use mathlib.Core.List.{List}
use Prim.Native.Nat.{ℕ}
use Rattle.pen.specs.Encode.{PutBody}
use Rattle.records.specs.declared.Body.{Body}
use Rattle.records.specs.Values.{values}

pub body_is : (s : List ℕ) {b x : Body} {u : List ℕ} → b ≡ x → PutBody s (values x) u → PutBody s (values b) u
body_is s {u = u} q e = subst (λ b. PutBody s (values b) u) (sym q) e
