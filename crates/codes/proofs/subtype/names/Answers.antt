-- `codes::subtype::names` meets its contract: the names' codes, computed, are the definition's list.
use mathlib.Core.Path.{refl}
use Rattle.format.specs.Codes.{subtypes}
use Rattle.codes.specs.Names.{subtype_byte}
use Rattle.codes.proofs.subtype.names.Goals as goal

pub returns : goal.returns
unfolding subtypes subtype_byte
returns c = refl
