-- `orders::parse_broken_trade` meets its contract.
use mathlib.Core.Path.{refl}
use Rattle.format.specs.Ascii.{'B'}
use Rattle.format.proofs.Runs.{body-stops, body_reads, end, ◌⨾◌, start}
use Rattle.records.specs.Values.{values}
use Rattle.orders.proofs.parse_broken_trade.Goals as goal

pub returns-in_err-match_number : goal.returns-in_err-match_number
returns-in_err-match_number c = body-stops values 'B' _ _ _ refl start c.in_err-match_number.ensures c.from_residual.ensures.1

pub returns : goal.returns
returns c = body_reads 'B' _ refl (c.in_ok-match_number.ensures ⨾ end)
