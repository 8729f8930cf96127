-- `<LuldRefPriceTier as Code>::name` meets its contract.
use Rattle.codes.specs.declared.stock.LuldRefPriceTier.TheVariants as LuldRefPriceTier·
use Rattle.codes.specs.Names.{tier_byte, tier_names, tier_from}
use Rattle.codes.proofs.Match.{last_name}
use Rattle.codes.proofs.stock.LuldRefPriceTierCode.name.Goals as goal

pub returns-in-49 : goal.returns-in-49
unfolding tier_from
returns-in-49 c = rw c.in-49.is

pub returns-in-50 : goal.returns-in-50
unfolding tier_from
returns-in-50 c = rw c.in-50.is

pub returns-in_default : goal.returns-in_default
unfolding tier_from
returns-in_default c = last_name tier_byte tier_names LuldRefPriceTier·.Na _ c.in_default.in_default-own.rest
