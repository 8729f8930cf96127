-- Each read goes on from what was sent.
use Rattle.std.proofs.Common.{sym, subst, length, arith}
use Rattle.reader.specs.Window.{window_of}
use Rattle.format.specs.declared.Reading.{Reading}
use Rattle.walk.specs.declared.Walk.{Walk}
use Rattle.demand.specs.Promises.{Reached}
use Rattle.demand.proofs.Demand3.{reached-reading}
use Rattle.standard.specs.Reads.{Reads}
use Rattle.framing.proofs.Loop.{so-far-start, so-far-silent, so-far-went, so-far-on, so-far-short}
use Rattle.framing.proofs.Stops.{reached-sane}
use Rattle.framing.proofs.read_all.Goals as goal

-- a state that is reached by a reading is so by its own
own : {rd : Reading} {w : Walk} → Reached (window_of rd) rd w → Reached (window_of w.reading) w.reading w
own {w = w} r = subst (λ (e : Reading). Reached (window_of e) e w) (sym (reached-reading r)) r

pub loop-input-init : goal.loop-input-init
loop-input-init c = (so-far-start _ _ c.requires.0 c.unread-brought.ensures.1, c.requires.1, c.requires.2)

pub put_block-requires : goal.put_block-requires
put_block-requires c = let R = c.loop-input.invariant.0 in (own R.reached, R.good, c.loop-input.invariant.2)

pub returns-then-n-eq0 : goal.returns-then-n-eq0
returns-then-n-eq0 c =
    so-far-silent _ _ _ _ _ c.loop-input.buf _ c.loop-input.invariant.0 c.read-brought.ensures c.count-n.ensures c.loop-input.invariant.1 c.if-n-eq0.true

pub loop-input-smaller : goal.loop-input-smaller
loop-input-smaller c =
    let R = c.loop-input.invariant.0 in
    let B : Reads c.loop-input.brought (length c.read-brought.new.free) c.read-brought.result = rw c.read-brought.auto.free c.read-brought.ensures in
    let on = so-far-on _ _ _ _ _ c.read-brought.new.free _ R B c.count-n.ensures _ c.in-Ok.ensures in
    omega (arith, (reached-sane on.reached).bytes, so-far-went _ _ _ _ _ c.read-brought.new.free _ R B c.count-n.ensures _ c.in-Ok.ensures c.if-n-eq0.false)

pub loop-input-preserved : goal.loop-input-preserved
loop-input-preserved c =
    let B : Reads c.loop-input.brought (length c.read-brought.new.free) c.read-brought.result = rw c.read-brought.auto.free c.read-brought.ensures in (
      so-far-on _ _ _ _ _ c.read-brought.new.free _ c.loop-input.invariant.0 B c.count-n.ensures _ c.in-Ok.ensures,
      rw c.read-brought.auto.free c.loop-input.invariant.1,
      rw c.put_block.auto.out c.loop-input.invariant.2,
    )

pub returns-in-Err : goal.returns-in-Err
returns-in-Err c =
    let B : Reads c.loop-input.brought (length c.read-brought.new.free) c.read-brought.result = rw c.read-brought.auto.free c.read-brought.ensures in
    so-far-short _ _ _ _ _ c.read-brought.new.free _ c.loop-input.invariant.0 B c.count-n.ensures _ c.in-Err.ensures
