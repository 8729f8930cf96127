-- A body is determined by its values.
-- Assumes nothing.
use mathlib.Core.Path.{◌≡◌, refl}
use Rattle.codes.proofs.Back.{action-back, authenticity-back, category-back, class_back, cross-back, direction-back, etp_flag-back, event-back, flag-back, halt-back, interest-back, level-back, maker_mode-back, market-back, participant_state-back, qualifier-back, side-back, status-back, tier-back, trading_state-back, yes_no-back, subtype-back}
use Prim.Native.Nat.{ℕ}
use Rattle.std.proofs.Common.{Option, Some, None}
use Rattle.records.specs.declared.AddOrder.{AddOrder}
use Rattle.records.specs.declared.Body.{Body}
use Rattle.records.specs.declared.Body.TheVariants as Body·
use Rattle.records.specs.Values.{order_values, values, body_from}

order-back : (a : AddOrder) (m : Option ℕ) → a.mpid ≡ m → body_from (order_values a m) ≡ Body·.AddOrder a
unfolding body_from
order-back a None q = simp (side-back, ← q)
order-back a (Some m) q = simp (side-back, ← q)

pub body_back : (b : Body) → body_from (values b) ≡ b
unfolding body_from
body_back (Body·.AddOrder a) = order-back a a.mpid refl
body_back (Body·.Breach x) = simp level-back
body_back (Body·.BrokenTrade match-number) = refl
body_back (Body·.CrossTrade x) = simp cross-back
body_back (Body·.DeleteOrder reference) = refl
body_back (Body·.Imbalance x) = simp (direction-back, cross-back)
body_back (Body·.IpoQuotingPeriod x) = simp qualifier-back
body_back (Body·.LULDAuctionCollar stock ref-price upper-price lower-price extension) = refl
body_back (Body·.MwcbDeclineLevel level1 level2 level3) = refl
body_back (Body·.NonCrossTrade x) = simp side-back
body_back (Body·.OrderCancelled reference cancelled) = refl
body_back (Body·.OrderExecuted reference executed match-number) = refl
body_back (Body·.OrderExecutedWithPrice reference executed match-number printable price) = simp yes_no-back
body_back (Body·.ParticipantPosition x) = simp (yes_no-back, maker_mode-back, participant_state-back)
body_back (Body·.RegShoRestriction stock action) = simp action-back
body_back (Body·.ReplaceOrder x) = refl
body_back (Body·.RetailPriceImprovementIndicator x) = simp interest-back
body_back (Body·.StockDirectory x) = simp (category-back, status-back, yes_no-back, class_back, subtype-back, authenticity-back, flag-back, tier-back, etp_flag-back)
body_back (Body·.SystemEvent event) = simp event-back
body_back (Body·.TradingAction stock trading-state reserved reason) = simp trading_state-back
body_back (Body·.OperationalHalt stock market-code action) = simp (market-back, halt-back)
body_back (Body·.DirectListing x) = simp yes_no-back
