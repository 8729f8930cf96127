-- `trips::write_read` meets its contract.
use Rattle.trips.proofs.Calls.{write-then-read}
use Rattle.trips.proofs.write_read.Goals as goal

pub returns : goal.returns
returns c =
    let a = c.args in
    let w = c.write-w.ensures in
    let r = write-then-read a.reading a.m a.buf.now w.value w.buf_after w.fields_fit c.parse_message.ensures in
    record { value = r.0; buf_after = r.1; read_back = r.2 }
