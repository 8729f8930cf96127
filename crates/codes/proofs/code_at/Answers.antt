-- `codes::code_at` meets its contract.
use Rattle.std.proofs.Common.{refl, sym}
use Rattle.std.proofs.lemmas.Result.{err_from_is_err_and}
use Rattle.format.specs.Layout.{code}
use Rattle.format.proofs.Fields.{num-short}
use Rattle.codes.proofs.Codes.{code-named, code-none}
use Rattle.codes.proofs.code_at.Goals as goal

pub returns-in_err-b : goal.returns-in_err-b
returns-in_err-b g c =
    let p = err_from_is_err_and c.from_residual.result c.from_residual.ensures.1 in
    rw (p.1, p.2) (sym (num-short (code g.C.Code.set) 1 _ _ _ refl (sym c.in_err-b.ensures)))

pub returns-then-has : goal.returns-then-has
returns-then-has g c =
    code-named g.C.Code.byte g.C.Code.name g.C.Code.set _ _ g.met.C.Code.named c.in_ok-b.ensures c.has.ensures c.if-has.true c.name.ensures

pub returns-else-has : goal.returns-else-has
returns-else-has g c = rw c.refused.ensures (code-none g.C.Code.set _ _ c.in_ok-b.ensures c.has.ensures c.if-has.false)
