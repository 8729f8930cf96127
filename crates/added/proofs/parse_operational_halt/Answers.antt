-- `added::parse_operational_halt` meets its contract.
use mathlib.Core.Path.{refl}
use Rattle.format.specs.Ascii.{'h'}
use Rattle.format.proofs.Runs.{body-stops, body_reads, end, ◌⨾◌, start, ◌▹◌}
use Rattle.records.specs.Values.{values}
use Rattle.added.proofs.parse_operational_halt.Goals as goal

pub returns-in_err-stock : goal.returns-in_err-stock
returns-in_err-stock c = body-stops values 'h' _ _ _ refl start c.in_err-stock.ensures c.from_residual.ensures.1

pub returns-in_err-market : goal.returns-in_err-market
returns-in_err-market c = body-stops values 'h' _ _ _ refl (start ▹ c.in_ok-stock.ensures) c.in_err-market.ensures c.from_residual-in_err-market.ensures.1

pub returns-in_err-action : goal.returns-in_err-action
returns-in_err-action c = body-stops values 'h' _ _ _ refl (start ▹ c.in_ok-stock.ensures ▹ c.in_ok-market.ensures) c.in_err-action.ensures c.from_residual-in_err-action.ensures.1

pub returns : goal.returns
returns c = body_reads 'h' _ refl (c.in_ok-stock.ensures ⨾ c.in_ok-market.ensures ⨾ c.in_ok-action.ensures ⨾ end)
