-- What is plain has its tag at 2.
use Rattle.std.proofs.Common.{sym, ◌∙◌, arith}
use Rattle.plain.proofs.Accepts.{tested}
use Rattle.lines.proofs.Plainly.{plain-look}
use Rattle.lines.proofs.How.looked.Goals as goal

pub bounds-s-2 : goal.bounds-s-2
bounds-s-2 c =
    let e = sym c.plain.ensures ∙ c.if-plain-size.true in
    omega (arith, (tested c.args.s.now c.args.self.now.rows c.args.size e (omega arith)).long)

pub returns-then-plain-size : goal.returns-then-plain-size
returns-then-plain-size c =
    let e = sym c.plain.ensures ∙ c.if-plain-size.true in
    sym (plain-look c.args.self.now.reading c.args.s.now c.args.self.now.rows c.args.size (λ i. (c.type_inv.s i).fits) c.args.self.now.tabled e c.requires)
