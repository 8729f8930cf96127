use mathlib.Core.Path.{sym, ◌∙◌}
use native.Mathlib.Omega.{arith}
use lib.Seq.{drop-length}
use Rattle.templates.proofs.Laws.{name-closes, name-stop, name-more, name-none}
use Rattle.templates.proofs.named.Goals as goal

pub returns-then-b-eq125-clause-name : goal.returns-then-b-eq125-clause-name
returns-then-b-eq125-clause-name c =
    c.skip.ensures ∙ drop-length c.args.t.now ∙ sym (name-closes c.args.t.now c.loop-i.i c.args.v c.loop-i.last (omega arith) c.if-b-eq125.true) ∙ c.loop-i.invariant

pub returns-then-names-clause-name : goal.returns-then-names-clause-name
returns-then-names-clause-name c =
    c.skip-then-names.ensures ∙ sym (name-stop c.args.t.now c.loop-i.i c.args.v c.loop-i.last (omega arith) c.if-b-eq125.false (sym c.names.ensures ∙ c.if-names.true)) ∙ c.loop-i.invariant

pub loop-i-preserved : goal.loop-i-preserved
loop-i-preserved c =
    rw c.from.ensures (sym (name-more c.args.t.now c.loop-i.i c.args.v c.loop-i.last (omega arith) c.if-b-eq125.false (sym c.names.ensures ∙ c.if-names.false)) ∙ c.loop-i.invariant)

pub returns-clause-name : goal.returns-clause-name
returns-clause-name c =
    c.skip-2.ensures ∙ drop-length c.args.t.now ∙ sym (name-none c.args.t.now c.loop-i.i c.args.v c.loop-i.last (omega arith)) ∙ c.loop-i.invariant
