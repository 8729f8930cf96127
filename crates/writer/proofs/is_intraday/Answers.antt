-- `writer::is_intraday` meets its contract.
use mathlib.Core.Path.{ap}
use lib.Dec.{eqb}
use Rattle.format.specs.Ascii.{'I'}
use Rattle.writer.proofs.is_intraday.Goals as goal

pub returns : goal.returns
returns c = ap (λ n. eqb n 'I') c.byte.ensures
