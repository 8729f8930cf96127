-- A number of eight bytes that lies within a window of 52: it is there.
-- Assumes nothing.
use Prim.Native.Nat.{ℕ, ◌+◌, ◌≤◌}
use mathlib.Core.Path.{◌≡◌, refl, sym, ◌∙◌}
use mathlib.Core.List.{List}
use native.Mathlib.Omega.{arith}
use lib.ListN.{length}
use Rattle.format.specs.Layout.{num, be, part, got, field}
use Rattle.format.specs.Meaning.{fault_m}
use Rattle.format.specs.declared.Fault.{Fault}
use Rattle.format.specs.declared.Fault.TheVariants.{Short, Refused}
use Rattle.format.proofs.Fields.{field-num}

-- a number that is read there is the bytes; and none is not there
pub number_is : (w : List ℕ) (at : ℕ) {v : ℕ} → at + 8 ≤ length w → got v ≡ field (num 8) w at → v ≡ be (part w at 8)
number_is w at h p = cc (p ∙ sym (field-num 8 w at h refl))

pub number-there : (w : List ℕ) (at : ℕ) (e : Fault) → at + 8 ≤ length w → fault_m e ≡ field (num 8) w at → ⊥
number-there w at Short h p = let z : ◌≡◌ {A = ℕ} 0 1 = cc (p ∙ sym (field-num 8 w at h refl)) in omega arith
number-there w at (Refused r) h p = let z : ◌≡◌ {A = ℕ} 0 1 = cc (p ∙ sym (field-num 8 w at h refl)) in omega arith
