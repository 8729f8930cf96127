-- `orders::parse_imbalance_indicator` meets its contract.
use mathlib.Core.Path.{refl}
use Rattle.format.specs.Ascii.{'I'}
use Rattle.format.proofs.Runs.{body-stops, body_reads, end, ◌⨾◌, start, ◌▹◌}
use Rattle.records.specs.Values.{values}
use Rattle.orders.proofs.parse_imbalance_indicator.Goals as goal

pub returns-in_err-paired_shares : goal.returns-in_err-paired_shares
returns-in_err-paired_shares c = body-stops values 'I' _ _ _ refl start c.in_err-paired_shares.ensures c.from_residual.ensures.1

pub returns-in_err-imbalance_shares : goal.returns-in_err-imbalance_shares
returns-in_err-imbalance_shares c = body-stops values 'I' _ _ _ refl (start ▹ c.in_ok-paired_shares.ensures) c.in_err-imbalance_shares.ensures c.from_residual-in_err-imbalance_shares.ensures.1

pub returns-in_err-imbalance_direction : goal.returns-in_err-imbalance_direction
returns-in_err-imbalance_direction c = body-stops values 'I' _ _ _ refl (start ▹ c.in_ok-paired_shares.ensures ▹ c.in_ok-imbalance_shares.ensures) c.in_err-imbalance_direction.ensures c.from_residual-in_err-imbalance_direction.ensures.1

pub returns-in_err-stock : goal.returns-in_err-stock
returns-in_err-stock c = body-stops values 'I' _ _ _ refl (start ▹ c.in_ok-paired_shares.ensures ▹ c.in_ok-imbalance_shares.ensures ▹ c.in_ok-imbalance_direction.ensures) c.in_err-stock.ensures c.from_residual-in_err-stock.ensures.1

pub returns-in_err-far_price : goal.returns-in_err-far_price
returns-in_err-far_price c = body-stops values 'I' _ _ _ refl (start ▹ c.in_ok-paired_shares.ensures ▹ c.in_ok-imbalance_shares.ensures ▹ c.in_ok-imbalance_direction.ensures ▹ c.in_ok-stock.ensures) c.in_err-far_price.ensures c.from_residual-in_err-far_price.ensures.1

pub returns-in_err-near_price : goal.returns-in_err-near_price
returns-in_err-near_price c = body-stops values 'I' _ _ _ refl (start ▹ c.in_ok-paired_shares.ensures ▹ c.in_ok-imbalance_shares.ensures ▹ c.in_ok-imbalance_direction.ensures ▹ c.in_ok-stock.ensures ▹ c.in_ok-far_price.ensures) c.in_err-near_price.ensures c.from_residual-in_err-near_price.ensures.1

pub returns-in_err-current_ref_price : goal.returns-in_err-current_ref_price
returns-in_err-current_ref_price c = body-stops values 'I' _ _ _ refl (start ▹ c.in_ok-paired_shares.ensures ▹ c.in_ok-imbalance_shares.ensures ▹ c.in_ok-imbalance_direction.ensures ▹ c.in_ok-stock.ensures ▹ c.in_ok-far_price.ensures ▹ c.in_ok-near_price.ensures) c.in_err-current_ref_price.ensures c.from_residual-in_err-current_ref_price.ensures.1

pub returns-in_err-cross_type : goal.returns-in_err-cross_type
returns-in_err-cross_type c = body-stops values 'I' _ _ _ refl (start ▹ c.in_ok-paired_shares.ensures ▹ c.in_ok-imbalance_shares.ensures ▹ c.in_ok-imbalance_direction.ensures ▹ c.in_ok-stock.ensures ▹ c.in_ok-far_price.ensures ▹ c.in_ok-near_price.ensures ▹ c.in_ok-current_ref_price.ensures) c.in_err-cross_type.ensures c.from_residual-in_err-cross_type.ensures.1

pub returns-in_err-price_variation_indicator : goal.returns-in_err-price_variation_indicator
returns-in_err-price_variation_indicator c = body-stops values 'I' _ _ _ refl (start ▹ c.in_ok-paired_shares.ensures ▹ c.in_ok-imbalance_shares.ensures ▹ c.in_ok-imbalance_direction.ensures ▹ c.in_ok-stock.ensures ▹ c.in_ok-far_price.ensures ▹ c.in_ok-near_price.ensures ▹ c.in_ok-current_ref_price.ensures ▹ c.in_ok-cross_type.ensures) c.in_err-price_variation_indicator.ensures c.from_residual-in_err-price_variation_indicator.ensures.1

pub returns : goal.returns
returns c = body_reads 'I' _ refl (c.in_ok-paired_shares.ensures ⨾ c.in_ok-imbalance_shares.ensures ⨾ c.in_ok-imbalance_direction.ensures ⨾ c.in_ok-stock.ensures ⨾ c.in_ok-far_price.ensures ⨾ c.in_ok-near_price.ensures ⨾ c.in_ok-current_ref_price.ensures ⨾ c.in_ok-cross_type.ensures ⨾ c.in_ok-price_variation_indicator.ensures ⨾ end)
