-- `writer::check_body` meets its contract.
use mathlib.Core.Path.{refl, sym, ◌∙◌}
use Rattle.format.specs.Ascii.{'H', 'I', 'J', 'K', 'L', 'N', 'O', 'P', 'Q', 'R', 'Y', 'h'}
use Rattle.pen.specs.Encode.{layout}
use Rattle.writer.specs.Writing.{texts_of, intraday}
use Rattle.writer.proofs.Says.{checked, one-text, two-texts, order-checked}
use Rattle.writer.proofs.check_body.Goals as goal

pub returns-in-AddOrder : goal.returns-in-AddOrder
returns-in-AddOrder c =
    let x = c.in-AddOrder.x in
    order-checked x x.mpid c.mpid_tag.ensures c.is_text.ensures c.is_mpid.ensures c.both.ensures
    ∙ sym (checked c.in-AddOrder.is)

pub returns-in-Breach : goal.returns-in-Breach
unfolding texts_of intraday layout
returns-in-Breach c = sym (checked c.in-Breach.is)

pub returns-in-BrokenTrade : goal.returns-in-BrokenTrade
unfolding texts_of intraday layout
returns-in-BrokenTrade c = sym (checked c.in-BrokenTrade.is)

pub returns-in-CrossTrade : goal.returns-in-CrossTrade
unfolding texts_of intraday layout
returns-in-CrossTrade c = one-text 'Q' 8 c.in-CrossTrade.x.stock (checked c.in-CrossTrade.is) c.is_text-in-CrossTrade.ensures refl

pub returns-in-DeleteOrder : goal.returns-in-DeleteOrder
unfolding texts_of intraday layout
returns-in-DeleteOrder c = sym (checked c.in-DeleteOrder.is)

pub returns-in-Imbalance : goal.returns-in-Imbalance
unfolding texts_of intraday layout
returns-in-Imbalance c =
    one-text 'I' 8 c.in-Imbalance.x.stock (checked c.in-Imbalance.is) c.is_text-in-Imbalance.ensures c.is_intraday.ensures

pub returns-in-IpoQuotingPeriod : goal.returns-in-IpoQuotingPeriod
unfolding texts_of intraday layout
returns-in-IpoQuotingPeriod c = one-text 'K' 8 c.in-IpoQuotingPeriod.x.stock (checked c.in-IpoQuotingPeriod.is) c.is_text-in-IpoQuotingPeriod.ensures refl

pub returns-in-LULDAuctionCollar : goal.returns-in-LULDAuctionCollar
unfolding texts_of intraday layout
returns-in-LULDAuctionCollar c = one-text 'J' 8 c.in-LULDAuctionCollar.stock (checked c.in-LULDAuctionCollar.is) c.is_text-in-LULDAuctionCollar.ensures refl

pub returns-in-MwcbDeclineLevel : goal.returns-in-MwcbDeclineLevel
unfolding texts_of intraday layout
returns-in-MwcbDeclineLevel c = sym (checked c.in-MwcbDeclineLevel.is)

pub returns-in-NonCrossTrade : goal.returns-in-NonCrossTrade
unfolding texts_of intraday layout
returns-in-NonCrossTrade c = one-text 'P' 8 c.in-NonCrossTrade.x.stock (checked c.in-NonCrossTrade.is) c.is_text-in-NonCrossTrade.ensures refl

pub returns-in-OrderCancelled : goal.returns-in-OrderCancelled
unfolding texts_of intraday layout
returns-in-OrderCancelled c = sym (checked c.in-OrderCancelled.is)

pub returns-in-OrderExecuted : goal.returns-in-OrderExecuted
unfolding texts_of intraday layout
returns-in-OrderExecuted c = sym (checked c.in-OrderExecuted.is)

pub returns-in-OrderExecutedWithPrice : goal.returns-in-OrderExecutedWithPrice
unfolding texts_of intraday layout
returns-in-OrderExecutedWithPrice c = sym (checked c.in-OrderExecutedWithPrice.is)

pub returns-in-ParticipantPosition : goal.returns-in-ParticipantPosition
unfolding texts_of intraday layout
returns-in-ParticipantPosition c =
    let x = c.in-ParticipantPosition.x in
    two-texts 'L' 4 x.mpid 8 x.stock (checked c.in-ParticipantPosition.is) c.is_text-in-ParticipantPosition.ensures c.is_text-in-ParticipantPosition-2.ensures c.both-in-ParticipantPosition.ensures

pub returns-in-RegShoRestriction : goal.returns-in-RegShoRestriction
unfolding texts_of intraday layout
returns-in-RegShoRestriction c = one-text 'Y' 8 c.in-RegShoRestriction.stock (checked c.in-RegShoRestriction.is) c.is_text-in-RegShoRestriction.ensures refl

pub returns-in-ReplaceOrder : goal.returns-in-ReplaceOrder
unfolding texts_of intraday layout
returns-in-ReplaceOrder c = sym (checked c.in-ReplaceOrder.is)

pub returns-in-RetailPriceImprovementIndicator : goal.returns-in-RetailPriceImprovementIndicator
unfolding texts_of intraday layout
returns-in-RetailPriceImprovementIndicator c = one-text 'N' 8 c.in-RetailPriceImprovementIndicator.x.stock (checked c.in-RetailPriceImprovementIndicator.is) c.is_text-in-RetailPriceImprovementIndicator.ensures refl

pub returns-in-StockDirectory : goal.returns-in-StockDirectory
unfolding texts_of intraday layout
returns-in-StockDirectory c = one-text 'R' 8 c.in-StockDirectory.x.stock (checked c.in-StockDirectory.is) c.is_text-in-StockDirectory.ensures refl

pub returns-in-SystemEvent : goal.returns-in-SystemEvent
unfolding texts_of intraday layout
returns-in-SystemEvent c = sym (checked c.in-SystemEvent.is)

pub returns-in-TradingAction : goal.returns-in-TradingAction
unfolding texts_of intraday layout
returns-in-TradingAction c =
    let b = c.in-TradingAction in
    two-texts 'H' 8 b.stock 4 b.reason (checked b.is) c.is_text-in-TradingAction.ensures c.is_text-in-TradingAction-2.ensures c.both-in-TradingAction.ensures

pub returns-in-OperationalHalt : goal.returns-in-OperationalHalt
unfolding texts_of intraday layout
returns-in-OperationalHalt c = one-text 'h' 8 c.in-OperationalHalt.stock (checked c.in-OperationalHalt.is) c.is_text-in-OperationalHalt.ensures refl

pub returns-in-DirectListing : goal.returns-in-DirectListing
unfolding texts_of intraday layout
returns-in-DirectListing c = one-text 'O' 8 c.in-DirectListing.x.stock (checked c.in-DirectListing.is) c.is_text-in-DirectListing.ensures refl
