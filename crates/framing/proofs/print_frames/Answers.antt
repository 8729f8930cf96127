-- The closing lines are those of the state that was sent; or a write was not taken.
use Rattle.std.proofs.Common.{sym, ap, ◌∙◌, ℕ, List, length, rules, arith}
use lib.ListN.{length-take}
use Rattle.walk.specs.declared.Walk.{Walk}
use Rattle.demand.proofs.Demand3.{reached-reading}
use Rattle.lines.specs.Lines.{closing_of}
use Rattle.text.proofs.Laws.{wrote-long, wrote-front}
use Rattle.framing.specs.Told.{whole, failed}
use Rattle.framing.proofs.Stops.{reached-sane}
use Rattle.framing.proofs.Loop.{closes}
use Rattle.framing.proofs.print_frames.Goals as goal
use Rattle.framing.proofs.print_frames.Goals.{then-taken, else-taken}

abbrev closing_at : Walk → List ℕ
closing_at w = closing_of w.offset w.seen w.frames w.accepted

pub closing-n-requires : goal.closing-n-requires
closing-n-requires g c = (rw c.state.ensures (reached-sane c.read_all-run.ensures.reached), search rules)

pub slice_bounds-close-end : goal.slice_bounds-close-end
slice_bounds-close-end g c = simp length-take (omega (arith, c.closing-n.ensures.inside, wrote-long c.closing-n.ensures))

pub close-run-requires : goal.close-run-requires
close-run-requires g c =
    closes _ _ _ _ c.read_all-run.ensures (sym c.taken.ensures ∙ c.if-taken.true) (wrote-front c.closing-n.ensures ∙ ap closing_at c.state.ensures)

pub returns : goal.returns
returns g c =
    elim c.if-taken.branch [
      | then-taken w ↦
          rw w.run-is
          (whole (w.close-run.ensures.quiet_value ∙ c.read_all-run.ensures.told ∙ c.begun-begun.ensures.quiet_value)
          (ap (λ (x : Walk). x.reading) w.close-run.ensures.state_value ∙ reached-reading c.read_all-run.ensures.reached
          ∙ ap (λ (x : Walk). x.reading) c.begun-begun.ensures.state_value ∙ c.from.ensures)
          w.close-run.ensures.closed_value
          (w.close-run.ensures.bytes_value
          ∙ ap length (wrote-front w.closing-n.ensures ∙ ap closing_at (w.state.ensures ∙ sym w.close-run.ensures.state_value))))
      | else-taken w ↦ rw w.run-is (failed (sym c.taken.ensures ∙ w.if-taken.false))
    ]
