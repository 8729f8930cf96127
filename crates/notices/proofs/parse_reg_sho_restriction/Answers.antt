-- `notices::parse_reg_sho_restriction` meets its contract.
use mathlib.Core.Path.{refl}
use Rattle.format.specs.Ascii.{'Y'}
use Rattle.format.proofs.Runs.{body-stops, body_reads, end, ◌⨾◌, start, ◌▹◌}
use Rattle.records.specs.Values.{values}
use Rattle.notices.proofs.parse_reg_sho_restriction.Goals as goal

pub returns-in_err-stock : goal.returns-in_err-stock
returns-in_err-stock c = body-stops values 'Y' _ _ _ refl start c.in_err-stock.ensures c.from_residual.ensures.1

pub returns-in_err-action : goal.returns-in_err-action
returns-in_err-action c = body-stops values 'Y' _ _ _ refl (start ▹ c.in_ok-stock.ensures) c.in_err-action.ensures c.from_residual-in_err-action.ensures.1

pub returns : goal.returns
returns c = body_reads 'Y' _ refl (c.in_ok-stock.ensures ⨾ c.in_ok-action.ensures ⨾ end)
