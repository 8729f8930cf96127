-- `<IpoReleaseQualifier as Code>::name` meets its contract.
use Rattle.codes.specs.declared.market.IpoReleaseQualifier.TheVariants as IpoReleaseQualifier·
use Rattle.codes.specs.Names.{qualifier_byte, qualifier_names, qualifier_from}
use Rattle.codes.proofs.Match.{last_name}
use Rattle.codes.proofs.market.IpoReleaseQualifierCode.name.Goals as goal

pub returns-in-65 : goal.returns-in-65
unfolding qualifier_from
returns-in-65 c = rw c.in-65.is

pub returns-in_default : goal.returns-in_default
unfolding qualifier_from
returns-in_default c = last_name qualifier_byte qualifier_names IpoReleaseQualifier·.Cancelled _ c.in_default.in_default-own.rest
