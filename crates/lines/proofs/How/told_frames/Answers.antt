-- The frames of a turn go behind those told before; where a frame is refused, its line too.
use Rattle.std.proofs.Common.{refl, arith}
use Rattle.reader.specs.Window.{window_of}
use Rattle.text.proofs.Laws.{wrote-long}
use Rattle.lines.proofs.Told.{passing-start, far, passing-cut, passing-full, passing-on, halts-bad}
use Rattle.lines.proofs.How.told_frames.Goals as goal
use Rattle.lines.proofs.How.told_frames.Goals.{in-Cut, in-Full}

pub loop-refusal-init : goal.loop-refusal-init
loop-refusal-init c = passing-start _ (window_of _) _ _ _ _ _ _ _ _ c.requires.begun c.requires.inside c.args.begun.two c.args.begun.counted

pub told_accepted-h-requires : goal.told_accepted-h-requires
told_accepted-h-requires c =
    let P = c.loop-refusal.invariant in
    record {
      begun = P.within;
      fits = omega (arith, P.past, P.ahead, P.within, c.requires.fits);
      inside = omega (arith, P.text.inside, wrote-long P.text);
      wide = omega (arith, c.requires.wide, wrote-long P.text);
    }

pub overflow_sub-past : goal.overflow_sub-past
overflow_sub-past c = omega (arith, (far _ (window_of _) _ _ _ _ _ _ _ _ _ _ _ _ _ _ c.loop-refusal.invariant _ _ c.told_accepted-h.ensures).0)

pub overflow_add-past : goal.overflow_add-past
overflow_add-past c =
    let P = c.loop-refusal.invariant in
    omega (arith, far _ (window_of _) _ _ _ _ _ _ _ _ _ _ _ _ _ _ P _ _ c.told_accepted-h.ensures, P.past, P.ahead, c.requires.fits)

pub overflow_add-told : goal.overflow_add-told
overflow_add-told c =
    let P = c.loop-refusal.invariant in
    omega (arith, far _ (window_of _) _ _ _ _ _ _ _ _ _ _ _ _ _ _ P _ _ c.told_accepted-h.ensures, P.past, P.ahead, P.two, c.requires.fits)

pub overflow_add-good : goal.overflow_add-good
overflow_add-good c =
    let P = c.loop-refusal.invariant in
    omega (arith, far _ (window_of _) _ _ _ _ _ _ _ _ _ _ _ _ _ _ P _ _ c.told_accepted-h.ensures, P.past, P.ahead, P.two, P.counted, c.requires.fits)

pub invariant_of-result : goal.invariant_of-result
invariant_of-result c =
    let P = c.loop-refusal.invariant in
    let f = far _ (window_of _) _ _ _ _ _ _ _ _ _ _ _ _ _ _ P _ _ c.told_accepted-h.ensures in
    record { two = omega (arith, f.0, P.two); counted = omega (arith, P.counted) }

pub returns-in-loop-refusal : goal.returns-in-loop-refusal
returns-in-loop-refusal c =
    let P = c.loop-refusal.invariant in
    elim c.match-h.branch [
      | in-Cut w ↦ rw w.full-is (passing-cut _ (window_of _) _ _ _ _ _ _ _ _ _ _ _ _ _ _ P _ _ c.told_accepted-h.ensures _ refl refl refl w.in-Cut.is)
      | in-Full w ↦ rw w.full-is (passing-full _ (window_of _) _ _ _ _ _ _ _ _ _ _ _ _ _ _ P _ _ c.told_accepted-h.ensures _ refl refl refl w.in-Full.is)
    ]

pub overflow_add-offset : goal.overflow_add-offset
overflow_add-offset c =
    let P = c.loop-refusal.invariant in
    let b = halts-bad c.told_accepted-h.ensures _ _ c.in-Bad.is in
    omega (arith, b.1, b.2, far _ (window_of _) _ _ _ _ _ _ _ _ _ _ _ _ _ _ P _ _ c.told_accepted-h.ensures, P.past, P.ahead, c.requires.fits)

pub overflow_add-frames : goal.overflow_add-frames
overflow_add-frames c =
    let P = c.loop-refusal.invariant in
    let b = halts-bad c.told_accepted-h.ensures _ _ c.in-Bad.is in
    omega (arith, b.1, b.2, b.3, far _ (window_of _) _ _ _ _ _ _ _ _ _ _ _ _ _ _ P _ _ c.told_accepted-h.ensures, P.past, P.ahead, P.two, c.requires.fits)

pub loop-refusal-smaller : goal.loop-refusal-smaller
loop-refusal-smaller c =
    let P = c.loop-refusal.invariant in
    let b = halts-bad c.told_accepted-h.ensures _ _ c.in-Bad.is in
    omega (arith, b.1, b.2, b.3, far _ (window_of _) _ _ _ _ _ _ _ _ _ _ _ _ _ _ P _ _ c.told_accepted-h.ensures, P.within)

pub loop-refusal-preserved : goal.loop-refusal-preserved
loop-refusal-preserved c = passing-on _ (window_of _) _ _ _ _ _ _ _ _ _ _ _ _ _ _ c.loop-refusal.invariant _ _ c.told_accepted-h.ensures _ _ c.in-Bad.is _ _ c.refused_line-o.ensures
