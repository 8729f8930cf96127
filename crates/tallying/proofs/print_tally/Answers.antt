-- `tallying::print_tally` meets its contract.
use Prim.Native.Nat.{ℕ}
use mathlib.Core.Path.{◌≡◌, refl, ap, subst, ◌∙◌}
use mathlib.Core.List.{List}
use lib.ListN.{replicate, take}
use Rattle.format.specs.declared.Reading.{Reading}
use Rattle.words.specs.Words.{ending_by, stop_by}
use Rattle.text.specs.Decimal.{Wrote}
use Rattle.text.proofs.Laws.{wrote-front}
use Rattle.tally_lines.specs.Lines.{tally_of}
use Rattle.feeding.specs.declared.Turn.{Turn}
use Rattle.tallying.specs.Counts.{sum}
use Rattle.tallying.specs.Reads.{Tallied, Printed}
use Rattle.tallying.proofs.print_tally.Goals as goal

-- the counters start at zero
printed : {rd : Reading} {count : List ℕ} {last : Turn} {out after : List ℕ} {n : ℕ} → Tallied rd (replicate 256 0) last count
    → Wrote (tally_of count last.step.state.messages last.step.answer) out 0 after n → Printed rd count last (take n after)
unfolding sum
printed t w = record { start = _; none = record { all = refl; total = refl }; tallied = t; lines = wrote-front w }

-- the reading is the one that the words ask for
asked : {rd rd' : Reading} {count : List ℕ} {last : Turn} {text : List ℕ} → rd ≡ rd' → Printed rd count last text → Printed rd' count last text
asked {count = count} {last = last} {text = text} e p = subst (λ (rd : Reading). Printed rd count last text) e p

pub run-last-requires : goal.run-last-requires
unfolding sum
run-last-requires g c = record { all = refl; total = refl }

pub write-tally-requires : goal.write-tally-requires
write-tally-requires g c = printed c.run-last.ensures c.put_tally-n.ensures

pub report-requires : goal.report-requires
report-requires g c = record { number_value = c.stop_by-number.ensures ∙ ap stop_by c.number_of.ensures; o_value = c.ending_by.ensures ∙ ap (ending_by c.stop_by-number.result) c.taken-taken.ensures }

pub returns : goal.returns
returns g c =
    record {
      last = _;
      reads = c.write-tally.ensures.brought_value;
      count = _;
      text = _;
      printed = asked c.from-reading.ensures
          (printed c.run-last.ensures c.put_tally-n.ensures);
      bytes = c.write-tally.ensures.bytes_value;
    }
