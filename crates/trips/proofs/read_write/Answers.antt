-- `trips::read_write` meets its contract.
use Rattle.std.proofs.lemmas.Result.{err_from_is_err_and}
use Rattle.trips.proofs.Calls.{read-then-write, read-no-more}
use Rattle.trips.proofs.read_write.Goals as goal

pub returns-in_err-m : goal.returns-in_err-m
returns-in_err-m c =
    let a = c.args in
    let p = err_from_is_err_and c.from_residual.result c.from_residual.ensures.1 in
    let r = read-no-more a.reading a.s.now a.buf.now c.parse_message.result c.in_err-m.field-0.0 c.parse_message.ensures c.in_err-m.was in
    rw (p.1, p.2) (record { value = r.0; buf_after = r.1; written_back = r.2 })

pub returns : goal.returns
returns c =
    let a = c.args in
    let q = c.in_ok-m in
    let w = c.write.ensures in
    let r = read-then-write a.reading a.s.now a.buf.now c.parse_message.result q.m q.field-0-1 (λ i. (c.type_inv.s i).fits)
    c.parse_message.ensures q.was w.value w.buf_after in
    record { value = r.0; buf_after = r.1; written_back = r.2 }
