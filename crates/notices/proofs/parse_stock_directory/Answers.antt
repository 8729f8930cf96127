-- `notices::parse_stock_directory` meets its contract.
use mathlib.Core.Path.{refl}
use Rattle.format.specs.Ascii.{'R'}
use Rattle.format.proofs.Runs.{body-stops, body_reads, end, ◌⨾◌, start, ◌▹◌}
use Rattle.records.specs.Values.{values}
use Rattle.notices.proofs.parse_stock_directory.Goals as goal

pub returns-in_err-stock : goal.returns-in_err-stock
returns-in_err-stock c = body-stops values 'R' _ _ _ refl start c.in_err-stock.ensures c.from_residual.ensures.1

pub returns-in_err-market_category : goal.returns-in_err-market_category
returns-in_err-market_category c = body-stops values 'R' _ _ _ refl (start ▹ c.in_ok-stock.ensures) c.in_err-market_category.ensures c.from_residual-in_err-market_category.ensures.1

pub returns-in_err-financial_status : goal.returns-in_err-financial_status
returns-in_err-financial_status c = body-stops values 'R' _ _ _ refl (start ▹ c.in_ok-stock.ensures ▹ c.in_ok-market_category.ensures) c.in_err-financial_status.ensures c.from_residual-in_err-financial_status.ensures.1

pub returns-in_err-round_lot_size : goal.returns-in_err-round_lot_size
returns-in_err-round_lot_size c = body-stops values 'R' _ _ _ refl (start ▹ c.in_ok-stock.ensures ▹ c.in_ok-market_category.ensures ▹ c.in_ok-financial_status.ensures) c.in_err-round_lot_size.ensures c.from_residual-in_err-round_lot_size.ensures.1

pub returns-in_err-round_lots_only : goal.returns-in_err-round_lots_only
returns-in_err-round_lots_only c = body-stops values 'R' _ _ _ refl (start ▹ c.in_ok-stock.ensures ▹ c.in_ok-market_category.ensures ▹ c.in_ok-financial_status.ensures ▹ c.in_ok-round_lot_size.ensures) c.in_err-round_lots_only.ensures c.from_residual-in_err-round_lots_only.ensures.1

pub returns-in_err-issue_classification : goal.returns-in_err-issue_classification
returns-in_err-issue_classification c = body-stops values 'R' _ _ _ refl (start ▹ c.in_ok-stock.ensures ▹ c.in_ok-market_category.ensures ▹ c.in_ok-financial_status.ensures ▹ c.in_ok-round_lot_size.ensures ▹ c.in_ok-round_lots_only.ensures) c.in_err-issue_classification.ensures c.from_residual-in_err-issue_classification.ensures.1

pub returns-in_err-issue_subtype : goal.returns-in_err-issue_subtype
returns-in_err-issue_subtype c = body-stops values 'R' _ _ _ refl (start ▹ c.in_ok-stock.ensures ▹ c.in_ok-market_category.ensures ▹ c.in_ok-financial_status.ensures ▹ c.in_ok-round_lot_size.ensures ▹ c.in_ok-round_lots_only.ensures ▹ c.in_ok-issue_classification.ensures) c.in_err-issue_subtype.ensures c.from_residual-in_err-issue_subtype.ensures.1

pub returns-in_err-authenticity : goal.returns-in_err-authenticity
returns-in_err-authenticity c = body-stops values 'R' _ _ _ refl (start ▹ c.in_ok-stock.ensures ▹ c.in_ok-market_category.ensures ▹ c.in_ok-financial_status.ensures ▹ c.in_ok-round_lot_size.ensures ▹ c.in_ok-round_lots_only.ensures ▹ c.in_ok-issue_classification.ensures ▹ c.in_ok-issue_subtype.ensures) c.in_err-authenticity.ensures c.from_residual-in_err-authenticity.ensures.1

pub returns-in_err-short_sale_threshold : goal.returns-in_err-short_sale_threshold
returns-in_err-short_sale_threshold c = body-stops values 'R' _ _ _ refl (start ▹ c.in_ok-stock.ensures ▹ c.in_ok-market_category.ensures ▹ c.in_ok-financial_status.ensures ▹ c.in_ok-round_lot_size.ensures ▹ c.in_ok-round_lots_only.ensures ▹ c.in_ok-issue_classification.ensures ▹ c.in_ok-issue_subtype.ensures ▹ c.in_ok-authenticity.ensures) c.in_err-short_sale_threshold.ensures c.from_residual-in_err-short_sale_threshold.ensures.1

pub returns-in_err-ipo_flag : goal.returns-in_err-ipo_flag
returns-in_err-ipo_flag c = body-stops values 'R' _ _ _ refl (start ▹ c.in_ok-stock.ensures ▹ c.in_ok-market_category.ensures ▹ c.in_ok-financial_status.ensures ▹ c.in_ok-round_lot_size.ensures ▹ c.in_ok-round_lots_only.ensures ▹ c.in_ok-issue_classification.ensures ▹ c.in_ok-issue_subtype.ensures ▹ c.in_ok-authenticity.ensures ▹ c.in_ok-short_sale_threshold.ensures) c.in_err-ipo_flag.ensures c.from_residual-in_err-ipo_flag.ensures.1

pub returns-in_err-luld_ref_price_tier : goal.returns-in_err-luld_ref_price_tier
returns-in_err-luld_ref_price_tier c = body-stops values 'R' _ _ _ refl (start ▹ c.in_ok-stock.ensures ▹ c.in_ok-market_category.ensures ▹ c.in_ok-financial_status.ensures ▹ c.in_ok-round_lot_size.ensures ▹ c.in_ok-round_lots_only.ensures ▹ c.in_ok-issue_classification.ensures ▹ c.in_ok-issue_subtype.ensures ▹ c.in_ok-authenticity.ensures ▹ c.in_ok-short_sale_threshold.ensures ▹ c.in_ok-ipo_flag.ensures) c.in_err-luld_ref_price_tier.ensures c.from_residual-in_err-luld_ref_price_tier.ensures.1

pub returns-in_err-etp_flag : goal.returns-in_err-etp_flag
returns-in_err-etp_flag c = body-stops values 'R' _ _ _ refl (start ▹ c.in_ok-stock.ensures ▹ c.in_ok-market_category.ensures ▹ c.in_ok-financial_status.ensures ▹ c.in_ok-round_lot_size.ensures ▹ c.in_ok-round_lots_only.ensures ▹ c.in_ok-issue_classification.ensures ▹ c.in_ok-issue_subtype.ensures ▹ c.in_ok-authenticity.ensures ▹ c.in_ok-short_sale_threshold.ensures ▹ c.in_ok-ipo_flag.ensures ▹ c.in_ok-luld_ref_price_tier.ensures) c.in_err-etp_flag.ensures c.from_residual-in_err-etp_flag.ensures.1

pub returns-in_err-etp_leverage_factor : goal.returns-in_err-etp_leverage_factor
returns-in_err-etp_leverage_factor c = body-stops values 'R' _ _ _ refl (start ▹ c.in_ok-stock.ensures ▹ c.in_ok-market_category.ensures ▹ c.in_ok-financial_status.ensures ▹ c.in_ok-round_lot_size.ensures ▹ c.in_ok-round_lots_only.ensures ▹ c.in_ok-issue_classification.ensures ▹ c.in_ok-issue_subtype.ensures ▹ c.in_ok-authenticity.ensures ▹ c.in_ok-short_sale_threshold.ensures ▹ c.in_ok-ipo_flag.ensures ▹ c.in_ok-luld_ref_price_tier.ensures ▹ c.in_ok-etp_flag.ensures) c.in_err-etp_leverage_factor.ensures c.from_residual-in_err-etp_leverage_factor.ensures.1

pub returns-in_err-inverse_indicator : goal.returns-in_err-inverse_indicator
returns-in_err-inverse_indicator c = body-stops values 'R' _ _ _ refl (start ▹ c.in_ok-stock.ensures ▹ c.in_ok-market_category.ensures ▹ c.in_ok-financial_status.ensures ▹ c.in_ok-round_lot_size.ensures ▹ c.in_ok-round_lots_only.ensures ▹ c.in_ok-issue_classification.ensures ▹ c.in_ok-issue_subtype.ensures ▹ c.in_ok-authenticity.ensures ▹ c.in_ok-short_sale_threshold.ensures ▹ c.in_ok-ipo_flag.ensures ▹ c.in_ok-luld_ref_price_tier.ensures ▹ c.in_ok-etp_flag.ensures ▹ c.in_ok-etp_leverage_factor.ensures) c.in_err-inverse_indicator.ensures c.from_residual-in_err-inverse_indicator.ensures.1

pub returns : goal.returns
returns c = body_reads 'R' _ refl (c.in_ok-stock.ensures ⨾ c.in_ok-market_category.ensures ⨾ c.in_ok-financial_status.ensures ⨾ c.in_ok-round_lot_size.ensures ⨾ c.in_ok-round_lots_only.ensures ⨾ c.in_ok-issue_classification.ensures ⨾ c.in_ok-issue_subtype.ensures ⨾ c.in_ok-authenticity.ensures ⨾ c.in_ok-short_sale_threshold.ensures ⨾ c.in_ok-ipo_flag.ensures ⨾ c.in_ok-luld_ref_price_tier.ensures ⨾ c.in_ok-etp_flag.ensures ⨾ c.in_ok-etp_leverage_factor.ensures ⨾ c.in_ok-inverse_indicator.ensures ⨾ end)
