-- The values of a body, and the body of values: the tag, then what each field gives, in the order of its row.
-- Assumes nothing.
use Rattle.std.specs.Prelude.{ℕ, Option, Some, None, Result, cond, List, [], ◌∷◌, eqb, get_or}
use Rattle.format.specs.Ascii.{'A', 'B', 'C', 'D', 'E', 'F', 'H', 'I', 'J', 'K', 'L', 'N', 'O', 'P', 'Q', 'R', 'S', 'U', 'V', 'W', 'X', 'Y', 'h'}
use Rattle.format.specs.Layout.{Answer}
use Rattle.format.specs.Meaning.{answer_m}
use Rattle.format.specs.declared.Fault.{Fault}
use Rattle.codes.specs.Names.{action_byte, authenticity_byte, category_byte, class_byte, cross_byte, direction_byte, etp_flag_byte, event_byte, flag_byte, halt_byte, interest_byte, level_byte, maker_mode_byte, market_byte, participant_state_byte, qualifier_byte, side_byte, status_byte, tier_byte, trading_state_byte, yes_no_byte, action_from, category_from, class_from, cross_from, direction_from, etp_flag_from, event_from, flag_from, halt_from, interest_from, level_from, maker_mode_from, market_from, participant_state_from, qualifier_from, side_from, status_from, tier_from, trading_state_from, subtype_byte, subtype_from}
use Rattle.records.specs.declared.AddOrder.{AddOrder}
use Rattle.records.specs.declared.ImbalanceIndicator.{ImbalanceIndicator}
use Rattle.records.specs.declared.IpoQuotingPeriod.{IpoQuotingPeriod}
use Rattle.records.specs.declared.MarketParticipantPosition.{MarketParticipantPosition}
use Rattle.records.specs.declared.RetailPriceImprovementIndicator.{RetailPriceImprovementIndicator}
use Rattle.records.specs.declared.NonCrossTrade.{NonCrossTrade}
use Rattle.records.specs.declared.CrossTrade.{CrossTrade}
use Rattle.records.specs.declared.StockDirectory.{StockDirectory}
use Rattle.records.specs.declared.ReplaceOrder.{ReplaceOrder}
use Rattle.records.specs.declared.DirectListing.{DirectListing}
use Rattle.records.specs.declared.Body.{Body}
use Rattle.records.specs.declared.Body.TheVariants as Body·

abbrev pub order_values : AddOrder → Option ℕ → List ℕ
order_values a None = 'A' ∷ a.reference ∷ side_byte a.side ∷ a.shares ∷ a.stock ∷ a.price ∷ []
order_values a (Some m) = 'F' ∷ a.reference ∷ side_byte a.side ∷ a.shares ∷ a.stock ∷ a.price ∷ m ∷ []

abbrev pub values : Body → List ℕ
values (Body·.AddOrder a) = order_values a a.mpid
values (Body·.Breach x) = 'W' ∷ level_byte x ∷ []
values (Body·.BrokenTrade match-number) = 'B' ∷ match-number ∷ []
values (Body·.CrossTrade x) = 'Q' ∷ x.shares ∷ x.stock ∷ x.cross_price ∷ x.match_number ∷ cross_byte x.cross_type ∷ []
values (Body·.DeleteOrder reference) = 'D' ∷ reference ∷ []
values (Body·.Imbalance x) =
    'I' ∷ x.paired_shares ∷ x.imbalance_shares ∷ direction_byte x.imbalance_direction ∷ x.stock
    ∷ x.far_price ∷ x.near_price ∷ x.current_ref_price ∷ cross_byte x.cross_type
    ∷ x.price_variation_indicator ∷ []
values (Body·.IpoQuotingPeriod x) = 'K' ∷ x.stock ∷ x.release_time ∷ qualifier_byte x.release_qualifier ∷ x.price ∷ []
values (Body·.LULDAuctionCollar stock ref-price upper-price lower-price extension) = 'J' ∷ stock ∷ ref-price ∷ upper-price ∷ lower-price ∷ extension ∷ []
values (Body·.MwcbDeclineLevel level1 level2 level3) = 'V' ∷ level1 ∷ level2 ∷ level3 ∷ []
values (Body·.NonCrossTrade x) = 'P' ∷ x.reference ∷ side_byte x.side ∷ x.shares ∷ x.stock ∷ x.price ∷ x.match_number ∷ []
values (Body·.OrderCancelled reference cancelled) = 'X' ∷ reference ∷ cancelled ∷ []
values (Body·.OrderExecuted reference executed match-number) = 'E' ∷ reference ∷ executed ∷ match-number ∷ []
values (Body·.OrderExecutedWithPrice reference executed match-number printable price) = 'C' ∷ reference ∷ executed ∷ match-number ∷ yes_no_byte printable ∷ price ∷ []
values (Body·.ParticipantPosition x) =
    'L' ∷ x.mpid ∷ x.stock ∷ yes_no_byte x.primary_market_maker ∷ maker_mode_byte x.market_maker_mode
    ∷ participant_state_byte x.market_participant_state ∷ []
values (Body·.RegShoRestriction stock action) = 'Y' ∷ stock ∷ action_byte action ∷ []
values (Body·.ReplaceOrder x) = 'U' ∷ x.old_reference ∷ x.new_reference ∷ x.shares ∷ x.price ∷ []
values (Body·.RetailPriceImprovementIndicator x) = 'N' ∷ x.stock ∷ interest_byte x.interest_flag ∷ []
values (Body·.StockDirectory x) =
    'R' ∷ x.stock ∷ category_byte x.market_category ∷ status_byte x.financial_status ∷ x.round_lot_size
    ∷ yes_no_byte x.round_lots_only ∷ class_byte x.issue_classification ∷ subtype_byte x.issue_subtype
    ∷ authenticity_byte x.authenticity ∷ flag_byte x.short_sale_threshold ∷ flag_byte x.ipo_flag
    ∷ tier_byte x.luld_ref_price_tier ∷ etp_flag_byte x.etp_flag ∷ x.etp_leverage_factor
    ∷ yes_no_byte x.inverse_indicator ∷ []
values (Body·.SystemEvent event) = 'S' ∷ event_byte event ∷ []
values (Body·.TradingAction stock trading-state reserved reason) = 'H' ∷ stock ∷ trading_state_byte trading-state ∷ reserved ∷ reason ∷ []
values (Body·.OperationalHalt stock market-code action) = 'h' ∷ stock ∷ market_byte market-code ∷ halt_byte action ∷ []
values (Body·.DirectListing x) =
    'O' ∷ x.stock ∷ yes_no_byte x.open_eligibility ∷ x.minimum_price ∷ x.maximum_price ∷ x.near_execution_price
    ∷ x.near_execution_time ∷ x.lower_collar ∷ x.upper_collar ∷ []

abbrev pub order_from : List ℕ → Option ℕ → AddOrder
order_from v m = record {
  reference = get_or v 1 0;
  side = side_from (get_or v 2 0);
  shares = get_or v 3 0;
  stock = get_or v 4 0;
  price = get_or v 5 0;
  mpid = m;
}

abbrev pub imbalance_indicator_from : List ℕ → ImbalanceIndicator
imbalance_indicator_from v = record {
  paired_shares = get_or v 1 0;
  imbalance_shares = get_or v 2 0;
  imbalance_direction = direction_from (get_or v 3 0);
  stock = get_or v 4 0;
  far_price = get_or v 5 0;
  near_price = get_or v 6 0;
  current_ref_price = get_or v 7 0;
  cross_type = cross_from (get_or v 8 0);
  price_variation_indicator = get_or v 9 0;
}

abbrev pub ipo_quoting_period_from : List ℕ → IpoQuotingPeriod
ipo_quoting_period_from v = record {
  stock = get_or v 1 0;
  release_time = get_or v 2 0;
  release_qualifier = qualifier_from (get_or v 3 0);
  price = get_or v 4 0;
}

abbrev pub participant_position_from : List ℕ → MarketParticipantPosition
participant_position_from v = record {
  mpid = get_or v 1 0;
  stock = get_or v 2 0;
  primary_market_maker = eqb (get_or v 3 0) 'Y';
  market_maker_mode = maker_mode_from (get_or v 4 0);
  market_participant_state = participant_state_from (get_or v 5 0);
}

abbrev pub retail_price_improvement_from : List ℕ → RetailPriceImprovementIndicator
retail_price_improvement_from v = record {
  stock = get_or v 1 0;
  interest_flag = interest_from (get_or v 2 0);
}

abbrev pub noncross_trade_from : List ℕ → NonCrossTrade
noncross_trade_from v = record {
  reference = get_or v 1 0;
  side = side_from (get_or v 2 0);
  shares = get_or v 3 0;
  stock = get_or v 4 0;
  price = get_or v 5 0;
  match_number = get_or v 6 0;
}

abbrev pub cross_trade_from : List ℕ → CrossTrade
cross_trade_from v = record {
  shares = get_or v 1 0;
  stock = get_or v 2 0;
  cross_price = get_or v 3 0;
  match_number = get_or v 4 0;
  cross_type = cross_from (get_or v 5 0);
}

abbrev pub stock_directory_from : List ℕ → StockDirectory
stock_directory_from v = record {
  stock = get_or v 1 0;
  market_category = category_from (get_or v 2 0);
  financial_status = status_from (get_or v 3 0);
  round_lot_size = get_or v 4 0;
  round_lots_only = eqb (get_or v 5 0) 'Y';
  issue_classification = class_from (get_or v 6 0);
  issue_subtype = subtype_from (get_or v 7 0);
  authenticity = eqb (get_or v 8 0) 'P';
  short_sale_threshold = flag_from (get_or v 9 0);
  ipo_flag = flag_from (get_or v 10 0);
  luld_ref_price_tier = tier_from (get_or v 11 0);
  etp_flag = etp_flag_from (get_or v 12 0);
  etp_leverage_factor = get_or v 13 0;
  inverse_indicator = eqb (get_or v 14 0) 'Y';
}

abbrev pub replace_order_from : List ℕ → ReplaceOrder
replace_order_from v = record {
  old_reference = get_or v 1 0;
  new_reference = get_or v 2 0;
  shares = get_or v 3 0;
  price = get_or v 4 0;
}

abbrev pub direct_listing_from : List ℕ → DirectListing
direct_listing_from v = record {
  stock = get_or v 1 0;
  open_eligibility = eqb (get_or v 2 0) 'Y';
  minimum_price = get_or v 3 0;
  maximum_price = get_or v 4 0;
  near_execution_price = get_or v 5 0;
  near_execution_time = get_or v 6 0;
  lower_collar = get_or v 7 0;
  upper_collar = get_or v 8 0;
}

-- the body of a tag and its values; of any other list, what S would have
unfoldable pub body_from : List ℕ → Body
body_from v =
    cond (eqb (get_or v 0 0) 'A') (Body·.AddOrder (order_from v None))
    (cond (eqb (get_or v 0 0) 'F') (Body·.AddOrder (order_from v (Some (get_or v 6 0))))
    (cond (eqb (get_or v 0 0) 'B') (Body·.BrokenTrade (get_or v 1 0))
    (cond (eqb (get_or v 0 0) 'C') (Body·.OrderExecutedWithPrice (get_or v 1 0) (get_or v 2 0) (get_or v 3 0) (eqb (get_or v 4 0) 'Y') (get_or v 5 0))
    (cond (eqb (get_or v 0 0) 'D') (Body·.DeleteOrder (get_or v 1 0))
    (cond (eqb (get_or v 0 0) 'E') (Body·.OrderExecuted (get_or v 1 0) (get_or v 2 0) (get_or v 3 0))
    (cond (eqb (get_or v 0 0) 'H') (Body·.TradingAction (get_or v 1 0) (trading_state_from (get_or v 2 0)) (get_or v 3 0) (get_or v 4 0))
    (cond (eqb (get_or v 0 0) 'I') (Body·.Imbalance (imbalance_indicator_from v))
    (cond (eqb (get_or v 0 0) 'J') (Body·.LULDAuctionCollar (get_or v 1 0) (get_or v 2 0) (get_or v 3 0) (get_or v 4 0) (get_or v 5 0))
    (cond (eqb (get_or v 0 0) 'K') (Body·.IpoQuotingPeriod (ipo_quoting_period_from v))
    (cond (eqb (get_or v 0 0) 'L') (Body·.ParticipantPosition (participant_position_from v))
    (cond (eqb (get_or v 0 0) 'N') (Body·.RetailPriceImprovementIndicator (retail_price_improvement_from v))
    (cond (eqb (get_or v 0 0) 'P') (Body·.NonCrossTrade (noncross_trade_from v))
    (cond (eqb (get_or v 0 0) 'Q') (Body·.CrossTrade (cross_trade_from v))
    (cond (eqb (get_or v 0 0) 'R') (Body·.StockDirectory (stock_directory_from v))
    (cond (eqb (get_or v 0 0) 'U') (Body·.ReplaceOrder (replace_order_from v))
    (cond (eqb (get_or v 0 0) 'V') (Body·.MwcbDeclineLevel (get_or v 1 0) (get_or v 2 0) (get_or v 3 0))
    (cond (eqb (get_or v 0 0) 'W') (Body·.Breach (level_from (get_or v 1 0)))
    (cond (eqb (get_or v 0 0) 'X') (Body·.OrderCancelled (get_or v 1 0) (get_or v 2 0))
    (cond (eqb (get_or v 0 0) 'Y') (Body·.RegShoRestriction (get_or v 1 0) (action_from (get_or v 2 0)))
    (cond (eqb (get_or v 0 0) 'h') (Body·.OperationalHalt (get_or v 1 0) (market_from (get_or v 2 0)) (halt_from (get_or v 3 0)))
    (cond (eqb (get_or v 0 0) 'O') (Body·.DirectListing (direct_listing_from v))
    (Body·.SystemEvent (event_from (get_or v 1 0))))))))))))))))))))))))

-- what a body's answer means
abbrev pub body_m : Result (Body × ℕ) Fault → Answer
body_m = answer_m values
