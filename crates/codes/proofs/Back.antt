-- A name is determined by its byte: each byte has its name back. So what a test finds of the names in a list holds of every name.
-- Assumes nothing.
use Prim.Native.Nat.{ℕ}
use mathlib.Core.Path.{◌≡◌, refl, subst}
use mathlib.Core.Bool.{Bool, true, false, cond, ◌&&◌}
use mathlib.Core.List.{List, [], ◌∷◌}
use lib.Dec.{T, eqb}
use Rattle.std.proofs.Common.{Option, Some, None}
use Rattle.format.specs.Ascii.{'Y', 'P'}
use Rattle.format.proofs.Tests.{both, is_true}
use Rattle.codes.specs.declared.market.EventCode.{EventCode}
use Rattle.codes.specs.declared.market.EventCode.TheVariants as EventCode·
use Rattle.codes.specs.declared.stock.MarketCategory.{MarketCategory}
use Rattle.codes.specs.declared.stock.MarketCategory.TheVariants as MarketCategory·
use Rattle.codes.specs.declared.stock.FinancialStatus.{FinancialStatus}
use Rattle.codes.specs.declared.stock.FinancialStatus.TheVariants as FinancialStatus·
use Rattle.codes.specs.declared.stock.IssueClassification.{IssueClassification}
use Rattle.codes.specs.declared.stock.IssueClassification.TheVariants as IssueClassification·
use Rattle.codes.specs.declared.stock.LuldRefPriceTier.{LuldRefPriceTier}
use Rattle.codes.specs.declared.stock.LuldRefPriceTier.TheVariants as LuldRefPriceTier·
use Rattle.codes.specs.declared.market.MarketMakerMode.{MarketMakerMode}
use Rattle.codes.specs.declared.market.MarketMakerMode.TheVariants as MarketMakerMode·
use Rattle.codes.specs.declared.market.MarketParticipantState.{MarketParticipantState}
use Rattle.codes.specs.declared.market.MarketParticipantState.TheVariants as MarketParticipantState·
use Rattle.codes.specs.declared.market.RegShoAction.{RegShoAction}
use Rattle.codes.specs.declared.market.RegShoAction.TheVariants as RegShoAction·
use Rattle.codes.specs.declared.market.TradingState.{TradingState}
use Rattle.codes.specs.declared.market.TradingState.TheVariants as TradingState·
use Rattle.codes.specs.declared.trade.Side.{Side}
use Rattle.codes.specs.declared.trade.Side.TheVariants as Side·
use Rattle.codes.specs.declared.trade.ImbalanceDirection.{ImbalanceDirection}
use Rattle.codes.specs.declared.trade.ImbalanceDirection.TheVariants as ImbalanceDirection·
use Rattle.codes.specs.declared.trade.CrossType.{CrossType}
use Rattle.codes.specs.declared.trade.CrossType.TheVariants as CrossType·
use Rattle.codes.specs.declared.market.IpoReleaseQualifier.{IpoReleaseQualifier}
use Rattle.codes.specs.declared.market.IpoReleaseQualifier.TheVariants as IpoReleaseQualifier·
use Rattle.codes.specs.declared.market.LevelBreached.{LevelBreached}
use Rattle.codes.specs.declared.market.LevelBreached.TheVariants as LevelBreached·
use Rattle.codes.specs.declared.market.MarketCode.{MarketCode}
use Rattle.codes.specs.declared.market.MarketCode.TheVariants as MarketCode·
use Rattle.codes.specs.declared.market.HaltAction.{HaltAction}
use Rattle.codes.specs.declared.market.HaltAction.TheVariants as HaltAction·
use Rattle.codes.specs.declared.trade.InterestFlag.{InterestFlag}
use Rattle.codes.specs.declared.trade.InterestFlag.TheVariants as InterestFlag·
use Rattle.codes.specs.declared.stock.EtpFlag.{EtpFlag}
use Rattle.codes.specs.declared.stock.EtpFlag.TheVariants as EtpFlag·
use Rattle.codes.specs.declared.subtype.IssueSubType.{IssueSubType}
use Rattle.codes.specs.declared.subtype.IssueSubType.TheVariants as IssueSubType·
use Rattle.codes.specs.Names.{name_of, subtype_byte, subtype_from, event_byte, event_from, category_byte, category_from, status_byte, status_from, class_byte, class_from, tier_byte, tier_from, maker_mode_byte, maker_mode_from, participant_state_byte, participant_state_from, action_byte, action_from, trading_state_byte, trading_state_from, side_byte, side_from, direction_byte, direction_from, cross_byte, cross_from, qualifier_byte, qualifier_from, level_byte, level_from, market_byte, market_from, halt_byte, halt_from, interest_byte, interest_from, flag_byte, flag_from, etp_flag_byte, etp_flag_from, yes_no_byte, authenticity_byte}

-- the bytes of these names pass a test
abbrev pub pass : {A : Type 0} → (ℕ → Bool) → (A → ℕ) → List A → Bool
pass test byte [] = true
pass test byte (x ∷ xs) = test (byte x) && pass test byte xs

named-passes : {A : Type 0} (test : ℕ → Bool) (byte : A → ℕ) (xs : List A) (last : A) (b : ℕ) → T (test (byte last)) → T (pass test byte xs)
    → test (byte (name_of byte xs last b)) ≡ true
named-passes test byte [] last b l t = is_true (test (byte last)) l
named-passes test byte (x ∷ xs) last b l t = go (eqb b (byte x)) (named-passes test byte xs last b l h.1)
  where
    h : T (test (byte x)) × T (pass test byte xs)
    h = both (test (byte x)) (pass test byte xs) t

    go : (q : Bool) → test (byte (name_of byte xs last b)) ≡ true → test (byte (cond q x (name_of byte xs last b))) ≡ true
    go true r = is_true (test (byte x)) h.0
    go false r = r

-- every name is one that a byte has: its own
pub all_pass : {A : Type 0} (test : ℕ → Bool) (byte : A → ℕ) (xs : List A) (last : A) → ((x : A) → name_of byte xs last (byte x) ≡ x)
    → T (pass test byte (last ∷ xs)) → (x : A) → test (byte x) ≡ true
all_pass test byte xs last back t x =
    let h = both (test (byte last)) (pass test byte xs) t in
    subst (λ y. test (byte y) ≡ true) (back x) (named-passes test byte xs last (byte x) h.0 h.1)

pub event-back : (x : EventCode) → event_from (event_byte x) ≡ x
unfolding event_from
event-back EventCode·.StartOfMessages = refl
event-back EventCode·.StartOfSystemHours = refl
event-back EventCode·.StartOfMarketHours = refl
event-back EventCode·.EndOfMarketHours = refl
event-back EventCode·.EndOfSystemHours = refl
event-back EventCode·.EndOfMessages = refl

pub category-back : (x : MarketCategory) → category_from (category_byte x) ≡ x
unfolding category_from
category-back MarketCategory·.NasdaqGlobalSelect = refl
category-back MarketCategory·.NasdaqGlobalMarket = refl
category-back MarketCategory·.NasdaqCapitalMarket = refl
category-back MarketCategory·.Nyse = refl
category-back MarketCategory·.NyseMkt = refl
category-back MarketCategory·.NyseArca = refl
category-back MarketCategory·.BatsZExchange = refl
category-back MarketCategory·.InvestorsExchange = refl
category-back MarketCategory·.Unavailable = refl

pub status-back : (x : FinancialStatus) → status_from (status_byte x) ≡ x
unfolding status_from
status-back FinancialStatus·.Normal = refl
status-back FinancialStatus·.Deficient = refl
status-back FinancialStatus·.Delinquent = refl
status-back FinancialStatus·.Bankrupt = refl
status-back FinancialStatus·.Suspended = refl
status-back FinancialStatus·.DeficientBankrupt = refl
status-back FinancialStatus·.DeficientDelinquent = refl
status-back FinancialStatus·.DelinquentBankrupt = refl
status-back FinancialStatus·.DeficientDelinquentBankrupt = refl
status-back FinancialStatus·.EtpSuspended = refl
status-back FinancialStatus·.Unavailable = refl

pub class_back : (x : IssueClassification) → class_from (class_byte x) ≡ x
unfolding class_from
class_back IssueClassification·.AmericanDepositaryShare = refl
class_back IssueClassification·.Bond = refl
class_back IssueClassification·.CommonStock = refl
class_back IssueClassification·.DepositoryReceipt = refl
class_back IssueClassification·.A144 = refl
class_back IssueClassification·.LimitedPartnership = refl
class_back IssueClassification·.Notes = refl
class_back IssueClassification·.OrdinaryShare = refl
class_back IssueClassification·.PreferredStock = refl
class_back IssueClassification·.OtherSecurities = refl
class_back IssueClassification·.Right = refl
class_back IssueClassification·.SharesOfBeneficialInterest = refl
class_back IssueClassification·.ConvertibleDebenture = refl
class_back IssueClassification·.Unit = refl
class_back IssueClassification·.UnitsPerBenifInt = refl
class_back IssueClassification·.Warrant = refl

pub tier-back : (x : LuldRefPriceTier) → tier_from (tier_byte x) ≡ x
unfolding tier_from
tier-back LuldRefPriceTier·.Tier1 = refl
tier-back LuldRefPriceTier·.Tier2 = refl
tier-back LuldRefPriceTier·.Na = refl

pub maker_mode-back : (x : MarketMakerMode) → maker_mode_from (maker_mode_byte x) ≡ x
unfolding maker_mode_from
maker_mode-back MarketMakerMode·.Normal = refl
maker_mode-back MarketMakerMode·.Passive = refl
maker_mode-back MarketMakerMode·.Syndicate = refl
maker_mode-back MarketMakerMode·.Presyndicate = refl
maker_mode-back MarketMakerMode·.Penalty = refl

pub participant_state-back : (x : MarketParticipantState) → participant_state_from (participant_state_byte x) ≡ x
unfolding participant_state_from
participant_state-back MarketParticipantState·.Active = refl
participant_state-back MarketParticipantState·.Excused = refl
participant_state-back MarketParticipantState·.Withdrawn = refl
participant_state-back MarketParticipantState·.Suspended = refl
participant_state-back MarketParticipantState·.Deleted = refl

pub action-back : (x : RegShoAction) → action_from (action_byte x) ≡ x
unfolding action_from
action-back RegShoAction·.None = refl
action-back RegShoAction·.Intraday = refl
action-back RegShoAction·.Extant = refl

pub trading_state-back : (x : TradingState) → trading_state_from (trading_state_byte x) ≡ x
unfolding trading_state_from
trading_state-back TradingState·.Halted = refl
trading_state-back TradingState·.Paused = refl
trading_state-back TradingState·.QuotationOnly = refl
trading_state-back TradingState·.Trading = refl

pub side-back : (x : Side) → side_from (side_byte x) ≡ x
unfolding side_from
side-back Side·.Buy = refl
side-back Side·.Sell = refl

pub direction-back : (x : ImbalanceDirection) → direction_from (direction_byte x) ≡ x
unfolding direction_from
direction-back ImbalanceDirection·.Buy = refl
direction-back ImbalanceDirection·.Sell = refl
direction-back ImbalanceDirection·.NoImbalance = refl
direction-back ImbalanceDirection·.InsufficientOrders = refl

pub cross-back : (x : CrossType) → cross_from (cross_byte x) ≡ x
unfolding cross_from
cross-back CrossType·.Opening = refl
cross-back CrossType·.Closing = refl
cross-back CrossType·.IpoOrHalted = refl
cross-back CrossType·.Intraday = refl
cross-back CrossType·.ExtendedTradingClose = refl

pub qualifier-back : (x : IpoReleaseQualifier) → qualifier_from (qualifier_byte x) ≡ x
unfolding qualifier_from
qualifier-back IpoReleaseQualifier·.Anticipated = refl
qualifier-back IpoReleaseQualifier·.Cancelled = refl

pub level-back : (x : LevelBreached) → level_from (level_byte x) ≡ x
unfolding level_from
level-back LevelBreached·.L1 = refl
level-back LevelBreached·.L2 = refl
level-back LevelBreached·.L3 = refl

pub market-back : (x : MarketCode) → market_from (market_byte x) ≡ x
unfolding market_from
market-back MarketCode·.Nasdaq = refl
market-back MarketCode·.Bx = refl
market-back MarketCode·.Psx = refl

pub halt-back : (x : HaltAction) → halt_from (halt_byte x) ≡ x
unfolding halt_from
halt-back HaltAction·.Halted = refl
halt-back HaltAction·.Resumed = refl

pub interest-back : (x : InterestFlag) → interest_from (interest_byte x) ≡ x
unfolding interest_from
interest-back InterestFlag·.RPIAvailableBuySide = refl
interest-back InterestFlag·.RPIAvailableSellSide = refl
interest-back InterestFlag·.RPIAvailableBothSides = refl
interest-back InterestFlag·.RPINoneAvailable = refl

pub flag-back : (x : Option Bool) → flag_from (flag_byte x) ≡ x
unfolding flag_from
flag-back (Some true) = refl
flag-back (Some false) = refl
flag-back None = refl

pub etp_flag-back : (x : EtpFlag) → etp_flag_from (etp_flag_byte x) ≡ x
unfolding etp_flag_from
etp_flag-back EtpFlag·.Yes = refl
etp_flag-back EtpFlag·.No = refl
etp_flag-back EtpFlag·.M = refl
etp_flag-back EtpFlag·.Absent = refl

pub yes_no-back : (x : Bool) → eqb (yes_no_byte x) 'Y' ≡ x
yes_no-back true = refl
yes_no-back false = refl

pub authenticity-back : (x : Bool) → eqb (authenticity_byte x) 'P' ≡ x
authenticity-back true = refl
authenticity-back false = refl

pub subtype-back : (x : IssueSubType) → subtype_from (subtype_byte x) ≡ x
unfolding subtype_from subtype_byte
subtype-back IssueSubType·.PreferredTrustSecurities = refl
subtype-back IssueSubType·.AlphaIndexETNs = refl
subtype-back IssueSubType·.IndexBasedDerivative = refl
subtype-back IssueSubType·.CommonShares = refl
subtype-back IssueSubType·.CommodityBasedTrustShares = refl
subtype-back IssueSubType·.CommodityFuturesTrustShares = refl
subtype-back IssueSubType·.CommodityLinkedSecurities = refl
subtype-back IssueSubType·.CommodityIndexTrustShares = refl
subtype-back IssueSubType·.CollateralizedMortgageObligation = refl
subtype-back IssueSubType·.CurrencyTrustShares = refl
subtype-back IssueSubType·.CommodityCurrencyLinkedSecurities = refl
subtype-back IssueSubType·.CurrencyWarrants = refl
subtype-back IssueSubType·.GlobalDepositaryShares = refl
subtype-back IssueSubType·.ETFPortfolioDepositaryReceipt = refl
subtype-back IssueSubType·.EquityGoldShares = refl
subtype-back IssueSubType·.ETNEquityIndexLinkedSecurities = refl
subtype-back IssueSubType·.ExchangeTradedManagedFunds = refl
subtype-back IssueSubType·.ExchangeTradedNotes = refl
subtype-back IssueSubType·.EquityUnits = refl
subtype-back IssueSubType·.Holdrs = refl
subtype-back IssueSubType·.ETNFixedIncomeLinkedSecurities = refl
subtype-back IssueSubType·.ETNFuturesLinkedSecurities = refl
subtype-back IssueSubType·.GlobalShares = refl
subtype-back IssueSubType·.ETFIndexFundShares = refl
subtype-back IssueSubType·.InterestRate = refl
subtype-back IssueSubType·.IndexWarrant = refl
subtype-back IssueSubType·.IndexLinkedExchangeableNotes = refl
subtype-back IssueSubType·.CorporateBackedTrustSecurity = refl
subtype-back IssueSubType·.ContingentLitigationRight = refl
subtype-back IssueSubType·.Llc = refl
subtype-back IssueSubType·.EquityBasedDerivative = refl
subtype-back IssueSubType·.ManagedFundShares = refl
subtype-back IssueSubType·.ETNMultiFactorIndexLinkedSecurities = refl
subtype-back IssueSubType·.ManagedTrustSecurities = refl
subtype-back IssueSubType·.NYRegistryShares = refl
subtype-back IssueSubType·.OpenEndedMutualFund = refl
subtype-back IssueSubType·.PrivatelyHeldSecurity = refl
subtype-back IssueSubType·.PoisonPill = refl
subtype-back IssueSubType·.PartnershipUnits = refl
subtype-back IssueSubType·.ClosedEndFunds = refl
subtype-back IssueSubType·.RegS = refl
subtype-back IssueSubType·.CommodityRedeemableCommodityLinkedSecurities = refl
subtype-back IssueSubType·.ETNRedeemableFuturesLinkedSecurities = refl
subtype-back IssueSubType·.REIT = refl
subtype-back IssueSubType·.CommodityRedeemableCurrencyLinkedSecurities = refl
subtype-back IssueSubType·.Seed = refl
subtype-back IssueSubType·.SpotRateClosing = refl
subtype-back IssueSubType·.SpotRateIntraday = refl
subtype-back IssueSubType·.TrackingStock = refl
subtype-back IssueSubType·.TrustCertificates = refl
subtype-back IssueSubType·.TrustUnits = refl
subtype-back IssueSubType·.Portal = refl
subtype-back IssueSubType·.ContingentValueRight = refl
subtype-back IssueSubType·.TrustIssuedReceipts = refl
subtype-back IssueSubType·.WorldCurrencyOption = refl
subtype-back IssueSubType·.Trust = refl
subtype-back IssueSubType·.Other = refl
subtype-back IssueSubType·.NotApplicable = refl
