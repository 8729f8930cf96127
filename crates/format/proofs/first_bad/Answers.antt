use mathlib.Core.Path.{sym, ◌∙◌}
use Prim.Native.Nat.{◌+◌}
use native.Mathlib.Omega.{arith}
use lib.ListN.{get_or}
use Rattle.format.specs.Utf8.{utf_step, begins_at}
use Rattle.format.specs.Meaning.{utf_m}
use Rattle.format.proofs.Text.{bad-start, bad_more, bad-end}
use Rattle.format.proofs.first_bad.Goals as goal

pub loop-i-init : goal.loop-i-init
loop-i-init c =
    let a = c.args in
    (omega arith, bad-start a.s.now a.at a.w)

pub bounds-s-next : goal.bounds-s-next
bounds-s-next c = omega arith

pub loop-i-smaller : goal.loop-i-smaller
loop-i-smaller c = omega arith

pub loop-i-preserved : goal.loop-i-preserved
loop-i-preserved c =
    let a = c.args in
    let l = c.loop-i in
    let u = utf_m l.u in
    let end = a.at + a.w in
    let one = bad_more u l.from l.i a.s.now end c.loop-i-test.true c.requires.0 in
    let two = bad_more (utf_step u (get_or a.s.now l.i 0)) (begins_at u l.from l.i) (l.i + 1) a.s.now end (omega arith) c.requires.0 in
    (omega arith, rw (c.utf_step-u-in-loop-i.ensures, c.begins_at-from-in-loop-i.ensures, c.utf_step-u.ensures, c.begins_at-from.ensures) (sym two ∙ sym one ∙ l.invariant.1))

pub returns : goal.returns
returns c =
    let a = c.args in
    let l = c.loop-i in
    c.begins_at.ensures ∙ sym (bad-end (utf_m l.u) l.from l.i a.s.now (a.at + a.w) c.loop-i-test.false) ∙ l.invariant.1
