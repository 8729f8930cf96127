use mathlib.Core.Path.{sym, ◌∙◌}
use Prim.Native.Nat.{◌+◌}
use native.Mathlib.Omega.{arith}
use Rattle.format.specs.Layout.{strays, first_stray, part}
use Rattle.strays.proofs.Sought.{sought-start, sought-here, sought-more, sought-end, counted, uncounted}
use Rattle.strays.proofs.in_text.Goals as goal

pub returns-then-limit-end : goal.returns-then-limit-end
returns-then-limit-end c =
    let a = c.args in
    uncounted (strays (part a.s.now a.at a.w)) _ (a.at + a.w) a.limit c.if-limit-end.true

pub loop-i-init : goal.loop-i-init
loop-i-init c =
    let a = c.args in
    sought-start a.s.now a.at a.w

pub returns-then-is_outside : goal.returns-then-is_outside
returns-then-is_outside c =
    let a = c.args in
    let l = c.loop-i in
    let t = part a.s.now a.at a.w in
    let o = sym c.is_outside.ensures ∙ c.if-is_outside.true in
    sought-here a.s.now l.i (a.at + a.w) c.loop-i-test.true (omega arith) o
    ∙ l.invariant
    ∙ counted (strays t) (a.at + first_stray t) (a.at + a.w) a.limit c.if-limit-end.false

pub loop-i-preserved : goal.loop-i-preserved
loop-i-preserved c =
    let a = c.args in
    let l = c.loop-i in
    let o = sym c.is_outside.ensures ∙ c.if-is_outside.false in
    sought-more a.s.now l.i (a.at + a.w) c.loop-i-test.true (omega arith) o ∙ l.invariant

pub returns : goal.returns
returns c =
    let a = c.args in
    let l = c.loop-i in
    let t = part a.s.now a.at a.w in
    sought-end a.s.now l.i (a.at + a.w) c.loop-i-test.false
    ∙ l.invariant
    ∙ counted (strays t) (a.at + first_stray t) (a.at + a.w) a.limit c.if-limit-end.false
