use Prim.Native.Nat.{ℕ}
use mathlib.Core.Path.{◌≡◌, sym, ap, ◌∙◌}
use mathlib.Core.Bool.{true, false}
use mathlib.Core.List.{List}
use native.Mathlib.Omega.{arith}
use lib.Dec.{eqb}
use lib.ListN.{length, get_or, drop, length-drop}
use Rattle.text.proofs.Laws.{wrote_as}
use Rattle.templates.specs.Templates.{brace, dot, past, value_of, behind_of}
use Rattle.templates.proofs.Laws.{filling-last, filling-stops, filling-more}
use Rattle.templates.proofs.filled.Goals as goal

pub returns-then-ends : goal.returns-then-ends
returns-then-ends c =
    let l = c.loop-x in
    let e : c.skip-place.result.now ≡ past brace l.t.now = c.skip-place.ensures ∙ ap (drop 1) c.split.ensures.parts.1 in
    let d : eqb (get_or (past brace l.t.now) 0 dot) dot ≡ true = ap (λ (p : List ℕ). eqb (get_or p 0 dot) dot) (sym e) ∙ sym c.ends.ensures ∙ c.if-ends.true in
    filling-stops c.args.template.now c.args.v.now c.args.out.now c.args.at0 l.out l.t.now l.at l.x-index l.invariant (omega arith) c.copied-at.new.out c.copied-at.result (wrote_as (sym c.split.ensures.parts.0) c.copied-at.ensures) d

pub loop-x-preserved : goal.loop-x-preserved
loop-x-preserved c =
    let l = c.loop-x in
    let e : c.skip-place.result.now ≡ past brace l.t.now = c.skip-place.ensures ∙ ap (drop 1) c.split.ensures.parts.1 in
    let d : eqb (get_or (past brace l.t.now) 0 dot) dot ≡ false = ap (λ (p : List ℕ). eqb (get_or p 0 dot) dot) (sym e) ∙ sym c.ends.ensures ∙ c.if-ends.false in
    filling-more c.args.template.now c.args.v.now c.args.out.now c.args.at0 l.out l.t.now l.at l.x-index l.invariant (omega arith) c.copied-at.new.out c.copied-at.result (wrote_as (sym c.split.ensures.parts.0) c.copied-at.ensures) d
    c.value.new.out c.value.result.0.now c.value.result.1
    (omega (arith, c.value.ensures.inside, c.copied-at.ensures.next, c.split.ensures.long, length-drop 1 c.split.result.1.now, ap length c.skip-place.ensures))
    (wrote_as (ap (λ (p : List ℕ). value_of p (get_or c.args.v.now l.x-index 0)) (sym e)) c.value.ensures.wrote)
    (c.value.ensures.rest ∙ ap (λ (p : List ℕ). behind_of p (get_or c.args.v.now l.x-index 0)) e)

pub returns : goal.returns
returns c =
    let l = c.loop-x in
    filling-last c.args.template.now c.args.v.now c.args.out.now c.args.at0 l.out l.t.now l.at l.x-index l.invariant (omega arith) c.copied.new.out c.copied.result (wrote_as (sym c.split-2.ensures.parts.0) c.copied.ensures)
