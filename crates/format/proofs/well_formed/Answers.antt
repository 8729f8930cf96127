-- `format::well_formed` meets its contract.
use mathlib.Core.Path.{◌≡◌, sym, ap}
use Prim.Native.Nat.{ℕ}
use mathlib.Core.Logic.{◌⊎◌, inl, inr}
use native.Mathlib.Omega.{arith}
use Rattle.format.specs.Utf8.{fresh, is_fresh, well_formed}
use Rattle.format.proofs.Text.{utf-four, utf-eight}
use Rattle.format.proofs.well_formed.Goals as goal

pub returns-then-w-eq8 : goal.returns-then-w-eq8
unfolding well_formed
returns-then-w-eq8 c =
    let a = c.args in
    rw (c.if-w-eq8.true, c.is_fresh.ensures, c.utf_step-after8.ensures, c.utf_step-after7.ensures, c.utf_step-after6.ensures, c.utf_step-after5.ensures, c.utf_step-after4.ensures, c.utf_step-after3.ensures, c.utf_step-after2.ensures, c.utf_step-after1.ensures)
    (ap is_fresh (sym (utf-eight fresh a.s.now a.at (omega arith))))

four_left : {w : ℕ} → (w ≡ 4) ⊎ (w ≡ 8) → (w ≡ 8 → ⊥) → w ≡ 4
four_left (inl q) n = q
four_left (inr q) n = absurd (n q)

pub returns : goal.returns
unfolding well_formed
returns c =
    let a = c.args in
    rw (four_left c.requires.1 c.if-w-eq8.false, c.is_fresh-2.ensures, c.utf_step-after4.ensures, c.utf_step-after3.ensures, c.utf_step-after2.ensures, c.utf_step-after1.ensures)
    (ap is_fresh (sym (utf-four fresh a.s.now a.at (omega arith))))
