-- Each call goes on where the one before left off.
use Rattle.std.proofs.Common.{◌≡◌, refl, sym, subst, ◌∙◌, ℕ, Bool, List, inl, inr, arith}
use lib.ListN.{length-take}
use Rattle.reader.specs.Window.{window_of}
use Rattle.walk.specs.declared.Walk.{Walk}
use Rattle.lines.specs.Blocks.{Called}
use Rattle.lines.specs.declared.Blocked.{Blocked}
use Rattle.framing.proofs.Loop.{in_start, called-long, called-in, called-went, lines-of, in_end, in-short}
use Rattle.framing.proofs.put_block.Goals as goal
use Rattle.framing.proofs.put_block.Goals.{then-not-taken-via-then-not-taken, then-not-taken-via-else-not-taken+then-stops}

-- the call of a turn, from what was sent
called : {q q' : Bool} {w v : Walk} {block : List ℕ} {from : ℕ} {out : List ℕ} {out' : List ℕ} {r : Blocked}
    → q' ≡ q → v ≡ w → Called q' (window_of v.reading) v block from out 0 out' r → Called q (window_of w.reading) w block from out 0 out' r
called {block = block} {from = from} {out = out} {out' = out'} {r = r} e f =
    subst (λ (x : Bool × Walk). Called x.0 (window_of x.1.reading) x.1 block from out 0 out' r) (λ i. (e i, f i))

pub loop-from-init : goal.loop-from-init
loop-from-init c = record { calls = in_start _ _ _ _ c.requires.0; told = refl; good = c.requires.1; long = refl; wide = c.requires.2 }

pub slice_bounds-put-end : goal.slice_bounds-put-end
slice_bounds-put-end c =
    let C = called c.quiet-quiet.ensures c.state.ensures c.walk_block-r.ensures in
    omega (arith, C.inside (omega arith), called-long _ _ _ _ _ _ _ _ _ c.loop-from.invariant.calls C)

pub slice_bounds-put-end-in-loop-from : goal.slice_bounds-put-end-in-loop-from
slice_bounds-put-end-in-loop-from c =
    let C = called c.quiet-quiet.ensures c.state.ensures c.walk_block-r.ensures in
    simp length-take (omega (arith, C.inside (omega arith), called-long _ _ _ _ _ _ _ _ _ c.loop-from.invariant.calls C))

pub put-next-requires : goal.put-next-requires
put-next-requires c =
    lines-of _ _ _ _ _ _ _ c.loop-from.invariant.told c.loop-from.invariant.good (called c.quiet-quiet.ensures c.state.ensures c.walk_block-r.ensures)

pub returns-then-not-taken : goal.returns-then-not-taken
returns-then-not-taken c =
    let C = called c.quiet-quiet.ensures c.state.ensures c.walk_block-r.ensures in
    in-short _ _ _ _ _ _ _ _ _ c.loop-from.invariant.calls C _ (c.put-next.ensures.quiet_value ∙ c.loop-from.invariant.told) c.put-next.ensures.state_value
    (elim c.then-not-taken.branch [
      | then-not-taken-via-then-not-taken w ↦ inl (sym c.taken.ensures ∙ w.if-not-taken.true)
      | then-not-taken-via-else-not-taken+then-stops w ↦ inr (sym w.stops.ensures ∙ w.if-stops.true)
    ])

pub loop-from-smaller : goal.loop-from-smaller
loop-from-smaller c =
    let l = c.loop-from.invariant in
    let C = called c.quiet-quiet.ensures c.state.ensures c.walk_block-r.ensures in
    omega (
      arith,
      called-went _ _ _ _ _ _ _ _ _ l.calls C c.loop-from-test.true (omega arith) (sym c.stops.ensures ∙ c.if-stops.false),
      (called-in _ _ _ _ _ _ _ _ _ l.calls C).inside,
    )

pub loop-from-preserved : goal.loop-from-preserved
loop-from-preserved c =
    let l = c.loop-from.invariant in
    let C = called c.quiet-quiet.ensures c.state.ensures c.walk_block-r.ensures in
    let long = called-long _ _ _ _ _ _ _ _ _ l.calls C in
    record {
      calls = rw c.put-next.ensures.state_value (called-in _ _ _ _ _ _ _ _ _ l.calls C);
      told = c.put-next.ensures.quiet_value ∙ l.told;
      good = sym c.taken.ensures ∙ c.if-not-taken.false;
      long = long ∙ l.long;
      wide = omega (arith, long);
    }

pub returns : goal.returns
returns c = let l = c.loop-from.invariant in in_end _ _ _ _ _ _ l.calls c.loop-from-test.false l.told l.good
