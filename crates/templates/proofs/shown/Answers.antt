-- `templates::shown` meets its contract.
use mathlib.Core.Path.{◌≡◌, sym, ◌∙◌}
use mathlib.Core.Bool.{true, false}
use native.Mathlib.Omega.{arith}
use Rattle.text.proofs.Laws.{wrote-byte}
use Rattle.templates.specs.Templates.{stays, shown_of}
use Rattle.templates.proofs.shown.Goals as goal

pub returns-then-plain : goal.returns-then-plain
unfolding shown_of
returns-then-plain c =
    let e : stays c.args.b ≡ true = sym c.plain.ensures ∙ c.if-plain.true in
    record { wrote = rw e (wrote-byte c.args.b c.args.out.now c.args.at (omega arith)); upper_bound = omega arith }

pub returns : goal.returns
unfolding shown_of
returns c =
    let e : stays c.args.b ≡ false = sym c.plain.ensures ∙ c.if-plain.false in
    let w = c.bytes.ensures.fits (omega arith) in
    record { wrote = rw (e, ← c.hex.ensures, ← c.hex-2.ensures) w; upper_bound = omega (arith, w.next) }
