-- `put_any::put_body` meets its contract.
use Rattle.put_any.proofs.Is.{body_is}
use Rattle.put_any.proofs.put_body.Goals as goal

pub returns-in-AddOrder : goal.returns-in-AddOrder
returns-in-AddOrder c = body_is _ c.in-AddOrder.is c.put_add_order.ensures

pub returns-in-Breach : goal.returns-in-Breach
returns-in-Breach c = body_is _ c.in-Breach.is c.put_breach.ensures

pub returns-in-BrokenTrade : goal.returns-in-BrokenTrade
returns-in-BrokenTrade c = body_is _ c.in-BrokenTrade.is c.put_broken_trade.ensures

pub returns-in-CrossTrade : goal.returns-in-CrossTrade
returns-in-CrossTrade c = body_is _ c.in-CrossTrade.is c.put_cross_trade.ensures

pub returns-in-DeleteOrder : goal.returns-in-DeleteOrder
returns-in-DeleteOrder c = body_is _ c.in-DeleteOrder.is c.put_delete_order.ensures

pub returns-in-Imbalance : goal.returns-in-Imbalance
returns-in-Imbalance c = body_is _ c.in-Imbalance.is c.put_imbalance_indicator.ensures

pub returns-in-IpoQuotingPeriod : goal.returns-in-IpoQuotingPeriod
returns-in-IpoQuotingPeriod c = body_is _ c.in-IpoQuotingPeriod.is c.put_ipo_quoting_period.ensures

pub returns-in-LULDAuctionCollar : goal.returns-in-LULDAuctionCollar
returns-in-LULDAuctionCollar c = body_is _ c.in-LULDAuctionCollar.is c.put_luld_auction_collar.ensures

pub returns-in-MwcbDeclineLevel : goal.returns-in-MwcbDeclineLevel
returns-in-MwcbDeclineLevel c = body_is _ c.in-MwcbDeclineLevel.is c.put_mwcb_decline_level.ensures

pub returns-in-NonCrossTrade : goal.returns-in-NonCrossTrade
returns-in-NonCrossTrade c = body_is _ c.in-NonCrossTrade.is c.put_noncross_trade.ensures

pub returns-in-OrderCancelled : goal.returns-in-OrderCancelled
returns-in-OrderCancelled c = body_is _ c.in-OrderCancelled.is c.put_order_cancelled.ensures

pub returns-in-OrderExecuted : goal.returns-in-OrderExecuted
returns-in-OrderExecuted c = body_is _ c.in-OrderExecuted.is c.put_order_executed.ensures

pub returns-in-OrderExecutedWithPrice : goal.returns-in-OrderExecutedWithPrice
returns-in-OrderExecutedWithPrice c = body_is _ c.in-OrderExecutedWithPrice.is c.put_order_executed_with_price.ensures

pub returns-in-ParticipantPosition : goal.returns-in-ParticipantPosition
returns-in-ParticipantPosition c = body_is _ c.in-ParticipantPosition.is c.put_participant_position.ensures

pub returns-in-RegShoRestriction : goal.returns-in-RegShoRestriction
returns-in-RegShoRestriction c = body_is _ c.in-RegShoRestriction.is c.put_reg_sho_restriction.ensures

pub returns-in-ReplaceOrder : goal.returns-in-ReplaceOrder
returns-in-ReplaceOrder c = body_is _ c.in-ReplaceOrder.is c.put_replace_order.ensures

pub returns-in-RetailPriceImprovementIndicator : goal.returns-in-RetailPriceImprovementIndicator
returns-in-RetailPriceImprovementIndicator c = body_is _ c.in-RetailPriceImprovementIndicator.is c.put_retail_price_improvement_indicator.ensures

pub returns-in-StockDirectory : goal.returns-in-StockDirectory
returns-in-StockDirectory c = body_is _ c.in-StockDirectory.is c.put_stock_directory.ensures

pub returns-in-SystemEvent : goal.returns-in-SystemEvent
returns-in-SystemEvent c = body_is _ c.in-SystemEvent.is c.put_system_event.ensures

pub returns-in-TradingAction : goal.returns-in-TradingAction
returns-in-TradingAction c = body_is _ c.in-TradingAction.is c.put_trading_action.ensures

pub returns-in-OperationalHalt : goal.returns-in-OperationalHalt
returns-in-OperationalHalt c = body_is _ c.in-OperationalHalt.is c.put_operational_halt.ensures

pub returns-in-DirectListing : goal.returns-in-DirectListing
returns-in-DirectListing c = body_is _ c.in-DirectListing.is c.put_direct_listing.ensures
