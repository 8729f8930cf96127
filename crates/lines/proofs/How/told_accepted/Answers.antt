-- Each accepted frame is told behind the others, up to why no further one is.
use Rattle.std.proofs.Common.{sym, refl, inl, inr, arith}
use Rattle.text.proofs.Laws.{wrote-long}
use Rattle.reader.specs.Window.{window_of}
use Rattle.walk.specs.Walk.{judge_of}
use Rattle.lines.proofs.Turns.{part-all}
use Rattle.lines.proofs.Along.{size-here}
use Rattle.lines.proofs.Plainly.{tag-told}
use Rattle.lines.proofs.Told.{telling-start, telling-cut, telling-full, telling-refused, telling-more, accepted-size}
use Rattle.lines.proofs.How.told_accepted.Goals as goal

pub loop-i-init : goal.loop-i-init
loop-i-init c = telling-start _ (window_of _) _ _ _ _ _ _ c.requires.begun c.requires.inside c.requires.wide

pub returns-then-have-i : goal.returns-then-have-i
returns-then-have-i c = telling-cut _ (window_of _) _ _ _ _ _ _ _ _ _ _ c.loop-i.invariant (inl c.if-have-i.true) (λ l. absurd (omega (arith, l, c.if-have-i.true)))

pub returns-then-last-o : goal.returns-then-last-o
returns-then-last-o c = telling-full _ (window_of _) _ _ _ _ _ _ _ _ _ _ c.loop-i.invariant c.if-have-i.false c.if-last-o.true

pub returns-then-s-i : goal.returns-then-s-i
returns-then-s-i c = telling-cut _ (window_of _) _ _ _ _ _ _ _ _ _ _ c.loop-i.invariant (inr (inl c.if-s-i.true)) (λ _. c.if-last-o.false)

pub returns-then-have-i-2 : goal.returns-then-have-i-2
returns-then-have-i-2 c =
    let l = c.loop-i in
    telling-cut _ (window_of _) _ _ _ _ _ _ _ _ _ _ l.invariant
    (inr (inr (rw (← size-here c.args.s.now l.i c.size_by-size.result (omega (arith, c.if-s-i.false)) c.size_by-size.ensures) c.if-have-i-2.true)))
    (λ _. c.if-last-o.false)

pub returns-in-Err : goal.returns-in-Err
returns-in-Err c =
    let a = c.args in
    let l = c.loop-i in
    let sized = c.size_by-size in
    let z = size-here a.s.now l.i sized.result (omega (arith, c.if-s-i.false)) sized.ensures in
    let e = rw (part-all a.s.now l.i) at c.in-Err.ensures in
    telling-refused _ (window_of _) _ _ _ _ _ _ _ _ _ _ l.invariant sized.result
    (record { before = c.if-have-i.false; sized = omega (arith, c.if-s-i.false); whole = omega (arith, z, c.if-have-i-2.false) }) z c.if-last-o.false
    (judge_of (window_of _) _ _) refl c.in-Err.refusal (sym e)

pub accepted_line-o-requires : goal.accepted_line-o-requires
accepted_line-o-requires c =
    let l = c.loop-i in
    let e = rw (part-all c.args.s.now l.i) at c.in-Ok.ensures in
    let t = tag-told (judge_of (window_of _) _ _) _ (sym e) in
    let d = accepted-size _ _ _ t.0 t.1 in
    (omega (arith, d.0), omega (arith, d.1), omega (arith, c.if-last-o.false, l.invariant.wide, wrote-long l.invariant.text))

pub loop-i-preserved : goal.loop-i-preserved
loop-i-preserved c =
    let a = c.args in
    let l = c.loop-i in
    let sized = c.size_by-size in
    let z = size-here a.s.now l.i sized.result (omega (arith, c.if-s-i.false)) sized.ensures in
    let e = rw (part-all a.s.now l.i) at c.in-Ok.ensures in
    let t = tag-told (judge_of (window_of _) _ _) _ (sym e) in
    telling-more _ (window_of _) _ _ _ _ _ _ _ _ _ _ l.invariant sized.result
    (record { before = c.if-have-i.false; sized = omega (arith, c.if-s-i.false); whole = omega (arith, z, c.if-have-i-2.false) }) z c.if-last-o.false
    t.0 t.1 _ _ (rw t.2 c.accepted_line-o.ensures)
