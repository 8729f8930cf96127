-- `reader::parse_body` meets its contract.
use mathlib.Core.Logic.{⊎_elim}
use mathlib.Core.Path.{◌∙◌}
use Rattle.reader.proofs.Tags.{not-base}
use Rattle.format.specs.Rows.{body_of, body_in}
use Rattle.reader.proofs.parse_body.Goals as goal

pub returns-in-65 : goal.returns-in-65
unfolding body_of body_in
returns-in-65 c =
    ⊎_elim
    (λ e. rw e (rw e at c.parse_add_order.ensures))
    (λ e. rw e (rw e at c.parse_add_order.ensures))
    c.in-65.is

pub returns-in-66 : goal.returns-in-66
unfolding body_of body_in
returns-in-66 c = rw c.in-66.is c.parse_broken_trade.ensures

pub returns-in-68 : goal.returns-in-68
unfolding body_of body_in
returns-in-68 c = rw c.in-68.is c.parse_delete_order.ensures

pub returns-in-67 : goal.returns-in-67
unfolding body_of body_in
returns-in-67 c = rw c.in-67.is c.parse_order_executed_with_price.ensures

pub returns-in-69 : goal.returns-in-69
unfolding body_of body_in
returns-in-69 c = rw c.in-69.is c.parse_order_executed.ensures

pub returns-in-72 : goal.returns-in-72
unfolding body_of body_in
returns-in-72 c = rw c.in-72.is c.parse_trading_action.ensures

pub returns-in-73 : goal.returns-in-73
unfolding body_of body_in
returns-in-73 c = rw c.in-73.is c.parse_imbalance_indicator.ensures

pub returns-in-74 : goal.returns-in-74
unfolding body_of body_in
returns-in-74 c = rw c.in-74.is c.parse_luld_auction_collar.ensures

pub returns-in-75 : goal.returns-in-75
unfolding body_of body_in
returns-in-75 c = rw c.in-75.is c.parse_ipo_quoting_period.ensures

pub returns-in-76 : goal.returns-in-76
unfolding body_of body_in
returns-in-76 c = rw c.in-76.is c.parse_participant_position.ensures

pub returns-in-78 : goal.returns-in-78
unfolding body_of body_in
returns-in-78 c = rw c.in-78.is c.parse_retail_price_improvement_indicator.ensures

pub returns-in-80 : goal.returns-in-80
unfolding body_of body_in
returns-in-80 c = rw c.in-80.is c.parse_noncross_trade.ensures

pub returns-in-81 : goal.returns-in-81
unfolding body_of body_in
returns-in-81 c = rw c.in-81.is c.parse_cross_trade.ensures

pub returns-in-82 : goal.returns-in-82
unfolding body_of body_in
returns-in-82 c = rw c.in-82.is c.parse_stock_directory.ensures

pub returns-in-83 : goal.returns-in-83
unfolding body_of body_in
returns-in-83 c = rw c.in-83.is c.parse_system_event.ensures

pub returns-in-85 : goal.returns-in-85
unfolding body_of body_in
returns-in-85 c = rw c.in-85.is c.parse_replace_order.ensures

pub returns-in-86 : goal.returns-in-86
unfolding body_of body_in
returns-in-86 c = rw c.in-86.is c.parse_mwcb_decline_level.ensures

pub returns-in-87 : goal.returns-in-87
unfolding body_of body_in
returns-in-87 c = rw c.in-87.is c.parse_breach.ensures

pub returns-in-88 : goal.returns-in-88
unfolding body_of body_in
returns-in-88 c = rw c.in-88.is c.parse_order_cancelled.ensures

pub returns-in-89 : goal.returns-in-89
unfolding body_of body_in
returns-in-89 c = rw c.in-89.is c.parse_reg_sho_restriction.ensures

pub returns-in_default : goal.returns-in_default
returns-in_default c = c.parse_later.ensures ∙ not-base _ _ _ c.in_default.in_default-own.rest
