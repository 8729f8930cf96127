-- `lines::walk_block` meets its contract.
use mathlib.Core.Path.{◌≡◌}
use Prim.Native.Nat.{◌-◌, ◌<◌}
use mathlib.Core.Path.{refl, sym, ap, ◌∙◌}
use native.Mathlib.Omega.{arith}
use lib.ListN.{length, drop, length-drop}
use Rattle.reader.specs.Window.{window_of}
use Rattle.walk.specs.Walk.{ready_of, step_of}
use Rattle.lines.proofs.Turns.{going_start, going-refused, called-used, called-full}
use Rattle.lines.proofs.Starts.{ready-all, ready_refused, start-of}
use borrow.Author.Rules.{rules}
use Rattle.lines.specs.declared.Why.TheVariants.{Used, Full, Stopped}
use Rattle.lines.proofs.walk_block.Goals as goal
use Rattle.lines.proofs.walk_block.Goals.{then-out-at-via-then-out-at, then-out-at-via-else-out-at+then-out-at-lt72}

pub returns-then-block-from : goal.returns-then-block-from
returns-then-block-from c =
    let a = c.args in
    let e : c.stay.result ≡ record { state = a.w; from = a.from; at = a.at; why = Used } = search rules in
    rw e (called-used _ (window_of a.w.reading) a.w a.block.now a.from a.out.now a.at c.if-block-from.true)

pub returns-then-out-at : goal.returns-then-out-at
returns-then-out-at c =
    let a = c.args in
    let few : length a.out.now - a.at < 72 =
    elim c.then-out-at.branch [
      | then-out-at-via-then-out-at w ↦ omega (arith, w.if-out-at.true)
      | then-out-at-via-else-out-at+then-out-at-lt72 w ↦ w.if-out-at-lt72.true
    ] in
    let e : c.stay-then-out-at.result ≡ record { state = a.w; from = a.from; at = a.at; why = Full } = search rules in
    rw e (called-full _ (window_of a.w.reading) a.w a.block.now a.from a.out.now a.at c.if-block-from.false few)

pub returns-then-not-ready : goal.returns-then-not-ready
returns-then-not-ready c =
    let a = c.args in
    let i = c.if-block-from in
    let e : c.stay-then-not-ready.result ≡ record { state = a.w; from = a.from; at = a.at; why = Stopped } = search rules in
    rw e
    (going-refused _ (window_of a.w.reading) _ _ _ _ _ _ _ _ _
    (going_start _ (window_of a.w.reading) a.block.now a.from a.out.now a.at a.w (omega (arith, i.false)) (omega (arith, c.if-out-at.false)))
    (step_of (window_of a.w.reading) a.w (drop a.from a.block.now)) i.false c.if-out-at-lt72.false refl
    (ready_refused (window_of a.w.reading) a.w (drop a.from a.block.now) (ap (ready_of a.w) (length-drop a.from a.block.now) ∙ sym c.ready.ensures ∙ c.if-not-ready.true)))

pub of-requires : goal.of-requires
of-requires c = let r = ready-all c.args.w (length c.args.block.now - c.args.from) (sym c.ready.ensures ∙ c.if-not-ready.false) in (r.two, r.counted)

pub from_start-requires : goal.from_start-requires
from_start-requires c =
    let r = ready-all c.args.w (length c.args.block.now - c.args.from) (sym c.ready.ensures ∙ c.if-not-ready.false) in (
      omega (arith, c.if-block-from.false),
      omega (arith, c.if-out-at.false),
      omega (arith, c.if-out-at-lt72.false),
      omega (arith, r.room, c.of.ensures),
    )

pub returns-then-w-eq0 : goal.returns-then-w-eq0
returns-then-w-eq0 c =
    let l : length c.args.w.held ≡ 52 = search rules in
    rw (
      c.of.ensures.0,
      c.of.ensures.1,
      c.of.ensures.2,
      c.new-how.ensures.quiet_value,
      c.new-how.ensures.reading_value,
      start-of c.args.w (length c.args.block.now - c.args.from) l (sym c.ready.ensures ∙ c.if-not-ready.false) c.if-w-eq0.true,
    )
    at c.from_start.ensures

pub from_inside-requires : goal.from_inside-requires
from_inside-requires c = (
  c.if-block-from.false,
  omega (arith, c.if-out-at.false, c.if-out-at-lt72.false),
  sym c.ready.ensures ∙ c.if-not-ready.false,
  c.new-how.ensures.reading_value,
)

pub returns : goal.returns
returns c = rw (c.new-how.ensures.quiet_value, c.new-how.ensures.reading_value) at c.from_inside.ensures
