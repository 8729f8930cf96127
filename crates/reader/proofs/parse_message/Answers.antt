-- `reader::parse_message` meets its contract.
use mathlib.Core.Path.{ap, sym, ◌∙◌}
use native.Mathlib.Omega.{arith}
use Rattle.std.proofs.lemmas.Result.{err_from_is_err_and}
use Rattle.format.specs.Meaning.{stop_m}
use Rattle.reader.proofs.Parts.{no_header, was_read, too-late, strayed, unstrayed, reached, ordinary, unread, unread-unstrayed}
use Rattle.reader.proofs.parse_message.Goals as goal

pub returns-in_default : goal.returns-in_default
returns-in_default c = no_header _ _ c.read_header.ensures c.in_default.is

pub returns-then-late : goal.returns-then-late
returns-then-late c = ap stop_m c.refused.ensures ∙ too-late _ _ c.read_header.ensures c.in-Some.is (sym c.late.ensures ∙ c.if-late.true)

pub returns-in_err-unstrayed-in-Ok : goal.returns-in_err-unstrayed-in-Ok
returns-in_err-unstrayed-in-Ok c =
    let p = err_from_is_err_and c.from_residual.result c.from_residual.ensures.1 in
    rw (p.1, p.2) (strayed _ _ _ (was_read _ _ c.read_header.ensures c.in-Some.is c.parse_body.ensures c.in-Ok.is) c.if-strict.true (sym c.late.ensures ∙ c.if-late.false) (omega arith) c.in_err-unstrayed-in-Ok.ensures)

pub returns-in_err-unstrayed-in-Err : goal.returns-in_err-unstrayed-in-Err
returns-in_err-unstrayed-in-Err c =
    let p = err_from_is_err_and c.from_residual-in_err-unstrayed-in-Err.result c.from_residual-in_err-unstrayed-in-Err.ensures.1 in
    rw (p.1, p.2) (strayed _ _ _ (was_read _ _ c.read_header.ensures c.in-Some.is c.parse_body.ensures c.in-Err.is) c.if-strict-2.true (sym c.late.ensures ∙ c.if-late.false) (reached _ _ c.reach.ensures) c.in_err-unstrayed-in-Err.ensures)

pub returns-in_ok-unstrayed-in-Ok : goal.returns-in_ok-unstrayed-in-Ok
returns-in_ok-unstrayed-in-Ok c = unstrayed _ _ _ (was_read _ _ c.read_header.ensures c.in-Some.is c.parse_body.ensures c.in-Ok.is) c.if-strict.true (sym c.late.ensures ∙ c.if-late.false) (omega arith) c.in_ok-unstrayed-in-Ok.ensures

pub returns-else-strict : goal.returns-else-strict
returns-else-strict c = ordinary _ _ (was_read _ _ c.read_header.ensures c.in-Some.is c.parse_body.ensures c.in-Ok.is) c.if-strict.false

pub returns-in_ok-unstrayed-in-Err : goal.returns-in_ok-unstrayed-in-Err
returns-in_ok-unstrayed-in-Err c = unread-unstrayed _ _ _ (was_read _ _ c.read_header.ensures c.in-Some.is c.parse_body.ensures c.in-Err.is) c.if-strict-2.true (sym c.late.ensures ∙ c.if-late.false) c.reach.ensures c.in_ok-unstrayed-in-Err.ensures

pub returns-else-strict-2 : goal.returns-else-strict-2
returns-else-strict-2 c = unread _ _ (was_read _ _ c.read_header.ensures c.in-Some.is c.parse_body.ensures c.in-Err.is) c.if-strict-2.false
