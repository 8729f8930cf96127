-- The codes of every name are legal in its field; and so what the writer lets pass are bodies whose every field can be read back.
-- Assumes nothing.
use mathlib.Core.Path.{◌≡◌, refl, subst}
use mathlib.Core.List.{List, [], ◌∷◌}
use mathlib.Core.Bool.{Bool, true, false, ◌&&◌, ◌||◌, false≢true}
use Prim.Native.Nat.{ℕ, ◌+◌}
use native.Mathlib.Omega.{arith}
use lib.Dec.{T, eqb}
use lib.ListN.{length, get_or, drop}
use lib.Seq.{get_or-drop}
use borrow.Author.Tests.{eqb-true}
use Rattle.format.specs.Ascii.{'I'}
use Rattle.format.specs.Codes.{side, yes_no, trading_state, direction, imbalance_cross, qualifier, maker_mode, participant_state, interest, cross, category, status, class, authenticity, flag, tier, event, level, action, market, halt, etp_flag, subtypes}
use Rattle.format.specs.Layout.{member}
use Rattle.format.proofs.Tests.{and_split}
use Rattle.pen.specs.Encode.{layout}
use Rattle.codes.specs.Names.{name_of, event_byte, event_names, event_from, category_byte, category_names, category_from, status_byte, status_names, status_from, class_byte, class_names, class_from, tier_byte, tier_names, tier_from, maker_mode_byte, maker_mode_names, maker_mode_from, participant_state_byte, participant_state_names, participant_state_from, action_byte, action_names, action_from, trading_state_byte, trading_state_names, trading_state_from, side_byte, side_names, side_from, direction_byte, direction_names, direction_from, cross_byte, cross_names, cross_from, qualifier_byte, qualifier_names, qualifier_from, level_byte, level_names, level_from, market_byte, market_names, market_from, halt_byte, halt_names, halt_from, interest_byte, interest_names, interest_from, flag_byte, flag_names, flag_from, etp_flag_byte, etp_flag_names, etp_flag_from, subtype_byte, subtype_names, subtype_from, yes_no_byte, authenticity_byte}
use Rattle.codes.specs.declared.trade.CrossType.{CrossType}
use Rattle.codes.proofs.Back.{pass, all_pass, event-back, category-back, status-back, class_back, tier-back, maker_mode-back, participant_state-back, action-back, trading_state-back, side-back, direction-back, cross-back, qualifier-back, level-back, market-back, halt-back, interest-back, flag-back, etp_flag-back, subtype-back}
use Rattle.std.proofs.Common.{Option, Some, None}
use Rattle.records.specs.declared.AddOrder.{AddOrder}
use Rattle.records.specs.declared.Body.{Body}
use Rattle.records.specs.declared.Body.TheVariants as Body·
use Rattle.records.specs.Values.{order_values, values}
use Rattle.writer.specs.Writing.{tag_of, fields_of, intraday}
use Rattle.writer.proofs.Says.{body-count}
use Rattle.trips.proofs.Fields.{codes_fine}

-- every name's byte is a code of the set: a test over the names
abbrev Legal : {A : Type 0} → (A → ℕ) → List ℕ → Type 0
Legal {A} byte set = (x : A) → member (byte x) set ≡ true

legal : {A : Type 0} (byte : A → ℕ) (xs : List A) (last : A) (set : List ℕ) → ((x : A) → name_of byte xs last (byte x) ≡ x)
    → T (pass (λ b. member b set) byte (last ∷ xs)) → Legal byte set
legal byte xs last set = all_pass (λ b. member b set) byte xs last

event-legal : Legal event_byte event
unfolding event_from event
event-legal = legal event_byte event_names _ event event-back tt

category-legal : Legal category_byte category
unfolding category_from category
category-legal = legal category_byte category_names _ category category-back tt

status-legal : Legal status_byte status
unfolding status_from status
status-legal = legal status_byte status_names _ status status-back tt

class-legal : Legal class_byte class
unfolding class_from class
class-legal = legal class_byte class_names _ class class_back tt

tier-legal : Legal tier_byte tier
unfolding tier_from tier
tier-legal = legal tier_byte tier_names _ tier tier-back tt

maker_mode-legal : Legal maker_mode_byte maker_mode
unfolding maker_mode_from maker_mode
maker_mode-legal = legal maker_mode_byte maker_mode_names _ maker_mode maker_mode-back tt

participant_state-legal : Legal participant_state_byte participant_state
unfolding participant_state_from participant_state
participant_state-legal = legal participant_state_byte participant_state_names _ participant_state participant_state-back tt

action-legal : Legal action_byte action
unfolding action_from action
action-legal = legal action_byte action_names _ action action-back tt

trading_state-legal : Legal trading_state_byte trading_state
unfolding trading_state_from trading_state
trading_state-legal = legal trading_state_byte trading_state_names _ trading_state trading_state-back tt

side-legal : Legal side_byte side
unfolding side_from side
side-legal = legal side_byte side_names _ side side-back tt

direction-legal : Legal direction_byte direction
unfolding direction_from direction
direction-legal = legal direction_byte direction_names _ direction direction-back tt

cross-legal : Legal cross_byte cross
unfolding cross_from cross
cross-legal = legal cross_byte cross_names _ cross cross-back tt

qualifier-legal : Legal qualifier_byte qualifier
unfolding qualifier_from qualifier
qualifier-legal = legal qualifier_byte qualifier_names _ qualifier qualifier-back tt

level-legal : Legal level_byte level
unfolding level_from level
level-legal = legal level_byte level_names _ level level-back tt

market-legal : Legal market_byte market
unfolding market_from market
market-legal = legal market_byte market_names _ market market-back tt

halt-legal : Legal halt_byte halt
unfolding halt_from halt
halt-legal = legal halt_byte halt_names _ halt halt-back tt

interest-legal : Legal interest_byte interest
unfolding interest_from interest
interest-legal = legal interest_byte interest_names _ interest interest-back tt

flag-legal : Legal flag_byte flag
unfolding flag_from flag
flag-legal = legal flag_byte flag_names _ flag flag-back tt

etp_flag-legal : Legal etp_flag_byte etp_flag
unfolding etp_flag_from etp_flag
etp_flag-legal = legal etp_flag_byte etp_flag_names _ etp_flag etp_flag-back tt

subtype-legal : Legal subtype_byte subtypes
unfolding subtype_byte subtype_from subtypes
subtype-legal = legal subtype_byte subtype_names _ subtypes subtype-back tt

yes_no-legal : Legal yes_no_byte yes_no
unfolding yes_no
yes_no-legal true = refl
yes_no-legal false = refl

authenticity-legal : Legal authenticity_byte authenticity
unfolding authenticity
authenticity-legal true = refl
authenticity-legal false = refl

-- in an imbalance record all crosses but Intraday are legal, and Intraday is not
imbalance-legal : (x : CrossType) → eqb (cross_byte x) 'I' ≡ false → member (cross_byte x) imbalance_cross ≡ true
unfolding cross_from imbalance_cross
imbalance-legal x h = rw h at (all_pass (λ b. eqb b 'I' || member b imbalance_cross) cross_byte cross_names _ cross-back tt x)

not-intraday : (v : ℕ) → member v imbalance_cross ≡ true → eqb v 'I' ≡ false
unfolding imbalance_cross
not-intraday v h = go (eqb v 'I') refl
  where
    go : (b : Bool) → eqb v 'I' ≡ b → b ≡ false
    go true e = absurd (false≢true (subst (λ n. member n imbalance_cross ≡ true) (eqb-true v 'I' e) h))
    go false e = refl

order-codes : (a : AddOrder) (p : Option ℕ) → codes_fine (layout (get_or (order_values a p) 0 0)) (drop 1 (order_values a p)) ≡ true
unfolding layout
order-codes a None = rw (side-legal a.side)
order-codes a (Some v) = rw (side-legal a.side)

-- a body that is no imbalance record with the cross Intraday has legal codes
pub codes : (b : Body) → intraday (values b) ≡ false → codes_fine (layout (tag_of b)) (fields_of b) ≡ true
unfolding layout intraday
codes (Body·.AddOrder x) h = order-codes x x.mpid
codes (Body·.Breach x) h = rw (level-legal x)
codes (Body·.BrokenTrade match-number) h = refl
codes (Body·.CrossTrade x) h = rw (cross-legal x.cross_type)
codes (Body·.DeleteOrder reference) h = refl
codes (Body·.Imbalance x) h = rw (direction-legal x.imbalance_direction, imbalance-legal x.cross_type h)
codes (Body·.IpoQuotingPeriod x) h = rw (qualifier-legal x.release_qualifier)
codes (Body·.LULDAuctionCollar stock ref-price upper-price lower-price extension) h = refl
codes (Body·.MwcbDeclineLevel level1 level2 level3) h = refl
codes (Body·.NonCrossTrade x) h = rw (side-legal x.side)
codes (Body·.OrderCancelled reference cancelled) h = refl
codes (Body·.OrderExecuted reference executed match-number) h = refl
codes (Body·.OrderExecutedWithPrice reference executed match-number printable price) h = rw (yes_no-legal printable)
codes (Body·.ParticipantPosition x) h =
    rw (yes_no-legal x.primary_market_maker, maker_mode-legal x.market_maker_mode, participant_state-legal x.market_participant_state)
codes (Body·.RegShoRestriction stock action) h = rw (action-legal action)
codes (Body·.ReplaceOrder x) h = refl
codes (Body·.RetailPriceImprovementIndicator x) h = rw (interest-legal x.interest_flag)
codes (Body·.StockDirectory x) h =
    rw (
      category-legal x.market_category,
      status-legal x.financial_status,
      yes_no-legal x.round_lots_only,
      class-legal x.issue_classification,
      subtype-legal x.issue_subtype,
      authenticity-legal x.authenticity,
      flag-legal x.short_sale_threshold,
      flag-legal x.ipo_flag,
      tier-legal x.luld_ref_price_tier,
      etp_flag-legal x.etp_flag,
      yes_no-legal x.inverse_indicator,
    )
codes (Body·.SystemEvent event) h = rw (event-legal event)
codes (Body·.TradingAction stock trading-state reserved reason) h = rw (trading_state-legal trading-state)
codes (Body·.OperationalHalt stock market-code action) h = rw (market-legal market-code, halt-legal action)
codes (Body·.DirectListing x) h = rw (yes_no-legal x.open_eligibility)

-- values with legal codes are no imbalance record with the cross Intraday
pub no-intraday : (vs : List ℕ) → codes_fine (layout (get_or vs 0 0)) (drop 1 vs) ≡ true → intraday vs ≡ false
unfolding layout intraday
no-intraday vs h = go (eqb (get_or vs 0 0) 'I') refl
  where
    go : (b : Bool) → eqb (get_or vs 0 0) 'I' ≡ b → (b && eqb (get_or vs 8 0) 'I') ≡ false
    go true e =
        let ws : List ℕ = drop 1 (drop 1 (drop 1 vs)) in
        let us : List ℕ = drop 1 (drop 1 (drop 1 (drop 1 (drop 1 ws)))) in
        let d : Bool = member (get_or ws 0 0) direction in
        let i : Bool = member (get_or us 0 0) imbalance_cross in
        let q : d && (i && true) ≡ true = subst (λ t. codes_fine (layout t) (drop 1 vs) ≡ true) (eqb-true (get_or vs 0 0) 'I' e) h in
        let c : get_or us 0 0 ≡ get_or vs 8 0 = simp get_or-drop in
        rw c at (not-intraday (get_or us 0 0) (and_split i true (and_split d (i && true) q).1).0)
    go false e = refl

-- a body's values are its tag and its fields, one for each field of its row
head_tail : (vs : List ℕ) (n : ℕ) → length vs ≡ 1 + n → (get_or vs 0 0 ∷ drop 1 vs ≡ vs) × (length (drop 1 vs) ≡ n)
head_tail [] n h = absurd (omega arith)
head_tail (v ∷ vs) n h = (refl, omega arith)

pub whole : (b : Body) → (tag_of b ∷ fields_of b ≡ values b) × (length (fields_of b) ≡ length (layout (tag_of b)))
whole b = head_tail (values b) (length (layout (tag_of b))) (body-count b)
