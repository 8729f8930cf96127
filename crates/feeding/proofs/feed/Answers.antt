-- `feeding::feed` meets its contract.
use mathlib.Core.Path.{refl, sym, ◌∙◌}
use native.Mathlib.Omega.{arith}
use borrow.Author.Rules.{rules}
use Rattle.feeding.proofs.Turns.{ready-is, ready-not, roomy, no_read, one-read}
use Rattle.feeding.proofs.feed.Goals as goal

pub returns-then-not-ready : goal.returns-then-not-ready
returns-then-not-ready c =
    let m = c.make_room_of-room in
    no_read c.args.s _ _ m.result _ _ m.ensures.value (ready-not _ (sym c.ready.ensures ∙ c.if-not-ready.true)) refl refl m.auto.buf

-- the free part begins within the buffer
pub slice_bounds-read-count : goal.slice_bounds-read-count
slice_bounds-read-count c =
    let m = c.make_room_of-room in
    let h = roomy c.args.s _ m.result m.ensures.value (ready-is _ (sym c.ready.ensures ∙ c.if-not-ready.false)) in
    omega (arith, h.whole, h.free, m.auto.buf)

pub slice_bounds-read-start : goal.slice_bounds-read-start
slice_bounds-read-start c =
    let m = c.make_room_of-room in
    let h = roomy c.args.s _ m.result m.ensures.value (ready-is _ (sym c.ready.ensures ∙ c.if-not-ready.false)) in
    omega (arith, h.whole, h.free, m.auto.buf)

pub returns : goal.returns
returns c =
    let m = c.make_room_of-room in
    let a = ready-is _ (sym c.ready.ensures ∙ c.if-not-ready.false) in
    let h = roomy c.args.s _ m.result m.ensures.value a in
    one-read c.args.s _ _ m.result m.new.buf _ _ m.ensures.value a m.ensures.buf_after (omega (arith, h.whole, h.free, m.auto.buf)) (search rules) m.auto.buf
    c.read-brought.ensures c.tell.ensures
