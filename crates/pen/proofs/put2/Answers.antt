-- `pen::put2` meets its contract.
use native.Mathlib.Numerals.{add-one}
use Rattle.pen.specs.Encode.{digits}
use Rattle.pen.proofs.put2.Goals as goal

pub returns : goal.returns
unfolding digits
returns c = rw add-one
