-- `<MarketCategory as Code>::name` meets its contract.
use Rattle.codes.specs.declared.stock.MarketCategory.TheVariants as MarketCategory·
use Rattle.codes.specs.Names.{category_byte, category_names, category_from}
use Rattle.codes.proofs.Match.{last_name}
use Rattle.codes.proofs.stock.MarketCategoryCode.name.Goals as goal

pub returns-in-81 : goal.returns-in-81
unfolding category_from
returns-in-81 c = rw c.in-81.is

pub returns-in-71 : goal.returns-in-71
unfolding category_from
returns-in-71 c = rw c.in-71.is

pub returns-in-83 : goal.returns-in-83
unfolding category_from
returns-in-83 c = rw c.in-83.is

pub returns-in-78 : goal.returns-in-78
unfolding category_from
returns-in-78 c = rw c.in-78.is

pub returns-in-65 : goal.returns-in-65
unfolding category_from
returns-in-65 c = rw c.in-65.is

pub returns-in-80 : goal.returns-in-80
unfolding category_from
returns-in-80 c = rw c.in-80.is

pub returns-in-90 : goal.returns-in-90
unfolding category_from
returns-in-90 c = rw c.in-90.is

pub returns-in-86 : goal.returns-in-86
unfolding category_from
returns-in-86 c = rw c.in-86.is

pub returns-in_default : goal.returns-in_default
unfolding category_from
returns-in_default c = last_name category_byte category_names MarketCategory·.Unavailable _ c.in_default.in_default-own.rest
