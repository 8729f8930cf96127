-- The frame that the state is in is ended, or carried on; what is behind it is told from its start.
use Rattle.std.proofs.Common.{◌≡◌, ℕ, ◌-◌, ◌≤◌, Bool, List, length, refl, subst, rules, arith}
use Rattle.format.specs.declared.Reading.{Reading}
use Rattle.reader.specs.Window.{Window}
use Rattle.reader.specs.Window.{window_of}
use Rattle.text.proofs.Laws.{wrote-long}
use Rattle.lines.specs.declared.Blocked.{Blocked}
use Rattle.lines.specs.Blocks.{start_of, Called}
use Rattle.lines.proofs.Turns.{part-all}
use Rattle.lines.proofs.Starts.{ready-all}
use Rattle.lines.proofs.Inside.{inside-cut, inside-fits, inside-line, held_one}
use Rattle.lines.proofs.How.from_inside.Goals as goal

-- behind the frame the walk goes on by its own reading
by-own : {q : Bool} {win : List ℕ → Window} {rd rd' : Reading} {n f a : ℕ} {b : List ℕ} {i : ℕ} {out : List ℕ} {at : ℕ} {after : List ℕ} {r : Blocked} → rd ≡ rd'
    → Called q win (start_of n f a rd) b i out at after r → Called q win (start_of n f a rd') b i out at after r
by-own {q} {win} {n = n} {f} {a} {b} {i} {out} {at} {after} {r} e = subst (λ (x : Reading). Called q win (start_of n f a x) b i out at after r) e

pub overflow_add-total : goal.overflow_add-total
overflow_add-total c = omega (arith, (ready-all c.args.w (length c.args.block.now - c.args.from) c.requires.2).room)

pub returns-then-total-size : goal.returns-then-total-size
returns-then-total-size c =
    let a = c.args in
    let p = c.requires in
    inside-cut _ (window_of a.self.now.reading) a.w a.block.now a.from a.out.now a.at p.0 p.1 p.2 c.put_in-held.result c.size_by-size.result
    (rw (part-all a.block.now a.from) at c.put_in-held.ensures) c.size_by-size.ensures c.if-total-size.true

pub of-requires : goal.of-requires
of-requires c = let r = ready-all c.args.w (length c.args.block.now - c.args.from) c.requires.2 in (r.two, r.counted)

pub told_frames-g-requires : goal.told_frames-g-requires
told_frames-g-requires c =
    let r = ready-all c.args.w (length c.args.block.now - c.args.from) c.requires.2 in
    let a = c.args in
    let p = c.requires in
    let f = inside-fits a.self.now.quiet (window_of a.self.now.reading) a.w a.block.now a.from a.out.now a.at p.0 p.1 p.2 c.put_in-held.result c.size_by-size.result
    (rw (part-all a.block.now a.from) at c.put_in-held.ensures) c.size_by-size.ensures _ refl c.if-total-size.false in
    record { begun = omega arith; fits = omega (arith, f.room, c.of.ensures); inside = omega (arith, p.1); wide = omega (arith, p.1) }

pub overflow_sub-used : goal.overflow_sub-used
overflow_sub-used c =
    let a = c.args in
    let p = c.requires in
    (inside-fits a.self.now.quiet (window_of a.self.now.reading) a.w a.block.now a.from a.out.now a.at p.0 p.1 p.2 c.put_in-held.result c.size_by-size.result
    (rw (part-all a.block.now a.from) at c.put_in-held.ensures) c.size_by-size.ensures _ refl c.if-total-size.false).more

pub from_start-requires : goal.from_start-requires
from_start-requires c =
    let a = c.args in
    let p = c.requires in
    let two : 2 ≤ length c.put_in-held.result = search rules in
    let f = inside-fits a.self.now.quiet (window_of a.self.now.reading) a.w a.block.now a.from a.out.now a.at p.0 p.1 p.2 c.put_in-held.result c.size_by-size.result
    (rw (part-all a.block.now a.from) at c.put_in-held.ensures) c.size_by-size.ensures _ refl c.if-total-size.false in
    let o = held_one _ (window_of a.self.now.reading) c.put_in-held.result c.size_by-size.result _ _ _ _ _ _ _ c.told_frames-g.ensures two c.size_by-size.ensures p.1 in
    (f.within, omega (arith, o.line.inside, wrote-long o.line), omega (arith, p.1, wrote-long o.line), omega (arith, f.room, o.past, c.of.ensures))

pub returns : goal.returns
returns c =
    let a = c.args in
    let p = c.requires in
    let two : 2 ≤ length c.put_in-held.result = search rules in
    let G = rw (c.of.ensures.0, c.of.ensures.1, c.of.ensures.2) at c.told_frames-g.ensures in
    let o = held_one _ (window_of a.self.now.reading) c.put_in-held.result c.size_by-size.result a.w.offset a.w.frames a.w.accepted _ _ _ _ G two c.size_by-size.ensures p.1 in
    inside-line _ (window_of a.self.now.reading) a.w a.block.now a.from a.out.now a.at p.0 p.1 p.2 c.put_in-held.result c.size_by-size.result
    (rw (part-all a.block.now a.from) at c.put_in-held.ensures) c.size_by-size.ensures c.if-total-size.false _ _ _ o.line refl _ _
    (by-own p.3 (rw (o.past, o.told, o.good) at c.from_start.ensures))
