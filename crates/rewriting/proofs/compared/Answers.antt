-- `rewriting::compared` meets its contract.
use Rattle.std.proofs.lemmas.Bool.Decides.{Decides-eqb}
use Rattle.std.proofs.lemmas.Slice.Eq.{slice_eq-Decides}
use Rattle.rewriting.proofs.compared.Goals as goal

pub returns : goal.returns
returns c = slice_eq-Decides Decides-eqb _ _ _ c.eq.ensures
