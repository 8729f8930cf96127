-- `strays::stray` meets its contract.
use mathlib.Core.Path.{◌∙◌}
use native.Mathlib.Omega.{arith}
use Rattle.format.specs.Strict.{stray_of}
use Rattle.strays.proofs.Rows.{two-texts, at-26, at-13, at-13-too, of-no-arm}
use Rattle.strays.proofs.stray.Goals as goal

pub returns-in-65 : goal.returns-in-65
returns-in-65 c = rw c.min-n.ensures at c.in_text.ensures ∙ at-26 _ _ _ c.in-65.is

pub returns-in-70 : goal.returns-in-70
unfolding stray_of
returns-in-70 c =
    let l = c.min-n in
    rw (c.in-70.is, ← l.ensures)
    (two-texts c.args.s.now 26 8 38 4 l.result (omega arith)
    c.in_text-in-70.ensures c.in_text-in-70-2.ensures c.either.ensures)

pub returns-in-72 : goal.returns-in-72
unfolding stray_of
returns-in-72 c =
    let l = c.min-n in
    rw (c.in-72.is, ← l.ensures)
    (two-texts c.args.s.now 13 8 23 4 l.result (omega arith)
    c.in_text-in-72.ensures c.in_text-in-72-2.ensures c.either-in-72.ensures)

pub returns-in-73 : goal.returns-in-73
unfolding stray_of
returns-in-73 c = rw (c.in-73.is, ← c.min-n.ensures) c.in_text-in-73.ensures

pub returns-in-76 : goal.returns-in-76
unfolding stray_of
returns-in-76 c =
    let l = c.min-n in
    rw (c.in-76.is, ← l.ensures)
    (two-texts c.args.s.now 13 4 17 8 l.result (omega arith)
    c.in_text-in-76.ensures c.in_text-in-76-2.ensures c.either-in-76.ensures)

pub returns-in-81 : goal.returns-in-81
unfolding stray_of
returns-in-81 c = rw (c.in-81.is, ← c.min-n.ensures) c.in_text-in-81.ensures

pub returns-in-74 : goal.returns-in-74
returns-in-74 c = rw c.min-n.ensures at c.in_text-in-74.ensures ∙ at-13 _ _ _ c.in-74.is

pub returns-in-75 : goal.returns-in-75
returns-in-75 c = rw c.min-n.ensures at c.in_text-in-75.ensures ∙ at-13-too _ _ _ c.in-75.is

pub returns-in_default : goal.returns-in_default
returns-in_default c = of-no-arm _ _ _ c.in_default.in_default-own.rest
