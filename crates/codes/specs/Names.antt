-- The names behind the codes: which byte, or which two, each name of the Rust's enums stands for; and from that, which name a byte has.
-- Assumes nothing.
use Rattle.std.specs.Prelude.{ℕ, Option, Some, None, Bool, true, false, cond, List, [], ◌∷◌, eqb}
use Rattle.format.specs.Ascii.{'␣', '0', '1', '2', '3', 'A', 'B', 'C', 'D', 'E', 'F', 'G', 'H', 'I', 'J', 'K', 'L', 'M', 'N', 'O', 'P', 'Q', 'R', 'S', 'T', 'U', 'V', 'W', 'X', 'Y', 'Z'}
use Rattle.format.specs.Codes.{pair, subtypes}
use Rattle.format.specs.Layout.{Got, member, fine, wrong, placed}
use Rattle.codes.specs.declared.market.EventCode.{EventCode}
use Rattle.codes.specs.declared.market.EventCode.TheVariants as EventCode·
use Rattle.codes.specs.declared.stock.MarketCategory.{MarketCategory}
use Rattle.codes.specs.declared.stock.MarketCategory.TheVariants as MarketCategory·
use Rattle.codes.specs.declared.stock.FinancialStatus.{FinancialStatus}
use Rattle.codes.specs.declared.stock.FinancialStatus.TheVariants as FinancialStatus·
use Rattle.codes.specs.declared.stock.IssueClassification.{IssueClassification}
use Rattle.codes.specs.declared.stock.IssueClassification.TheVariants as IssueClassification·
use Rattle.codes.specs.declared.stock.LuldRefPriceTier.{LuldRefPriceTier}
use Rattle.codes.specs.declared.stock.LuldRefPriceTier.TheVariants as LuldRefPriceTier·
use Rattle.codes.specs.declared.market.MarketMakerMode.{MarketMakerMode}
use Rattle.codes.specs.declared.market.MarketMakerMode.TheVariants as MarketMakerMode·
use Rattle.codes.specs.declared.market.MarketParticipantState.{MarketParticipantState}
use Rattle.codes.specs.declared.market.MarketParticipantState.TheVariants as MarketParticipantState·
use Rattle.codes.specs.declared.market.RegShoAction.{RegShoAction}
use Rattle.codes.specs.declared.market.RegShoAction.TheVariants as RegShoAction·
use Rattle.codes.specs.declared.market.TradingState.{TradingState}
use Rattle.codes.specs.declared.market.TradingState.TheVariants as TradingState·
use Rattle.codes.specs.declared.trade.Side.{Side}
use Rattle.codes.specs.declared.trade.Side.TheVariants as Side·
use Rattle.codes.specs.declared.trade.ImbalanceDirection.{ImbalanceDirection}
use Rattle.codes.specs.declared.trade.ImbalanceDirection.TheVariants as ImbalanceDirection·
use Rattle.codes.specs.declared.trade.CrossType.{CrossType}
use Rattle.codes.specs.declared.trade.CrossType.TheVariants as CrossType·
use Rattle.codes.specs.declared.market.IpoReleaseQualifier.{IpoReleaseQualifier}
use Rattle.codes.specs.declared.market.IpoReleaseQualifier.TheVariants as IpoReleaseQualifier·
use Rattle.codes.specs.declared.market.LevelBreached.{LevelBreached}
use Rattle.codes.specs.declared.market.LevelBreached.TheVariants as LevelBreached·
use Rattle.codes.specs.declared.market.MarketCode.{MarketCode}
use Rattle.codes.specs.declared.market.MarketCode.TheVariants as MarketCode·
use Rattle.codes.specs.declared.market.HaltAction.{HaltAction}
use Rattle.codes.specs.declared.market.HaltAction.TheVariants as HaltAction·
use Rattle.codes.specs.declared.trade.InterestFlag.{InterestFlag}
use Rattle.codes.specs.declared.trade.InterestFlag.TheVariants as InterestFlag·
use Rattle.codes.specs.declared.stock.EtpFlag.{EtpFlag}
use Rattle.codes.specs.declared.stock.EtpFlag.TheVariants as EtpFlag·
use Rattle.codes.specs.declared.subtype.IssueSubType.{IssueSubType}
use Rattle.codes.specs.declared.subtype.IssueSubType.TheVariants as IssueSubType·

-- the name of a byte: the first of these that it stands for, else the last name. So each list below has the names of its enum but the last
abbrev pub name_of : {A : Type 0} → (A → ℕ) → List A → A → ℕ → A
name_of byte [] last b = last
name_of byte (x ∷ xs) last b = cond (eqb b (byte x)) x (name_of byte xs last b)

abbrev pub event_byte : EventCode → ℕ
event_byte EventCode·.StartOfMessages = 'O'
event_byte EventCode·.StartOfSystemHours = 'S'
event_byte EventCode·.StartOfMarketHours = 'Q'
event_byte EventCode·.EndOfMarketHours = 'M'
event_byte EventCode·.EndOfSystemHours = 'E'
event_byte EventCode·.EndOfMessages = 'C'

abbrev pub event_names : List EventCode
event_names =
    EventCode·.StartOfMessages ∷ EventCode·.StartOfSystemHours ∷ EventCode·.StartOfMarketHours ∷ EventCode·.EndOfMarketHours
    ∷ EventCode·.EndOfSystemHours ∷ []

unfoldable pub event_from : ℕ → EventCode
event_from b = name_of event_byte event_names EventCode·.EndOfMessages b

abbrev pub category_byte : MarketCategory → ℕ
category_byte MarketCategory·.NasdaqGlobalSelect = 'Q'
category_byte MarketCategory·.NasdaqGlobalMarket = 'G'
category_byte MarketCategory·.NasdaqCapitalMarket = 'S'
category_byte MarketCategory·.Nyse = 'N'
category_byte MarketCategory·.NyseMkt = 'A'
category_byte MarketCategory·.NyseArca = 'P'
category_byte MarketCategory·.BatsZExchange = 'Z'
category_byte MarketCategory·.InvestorsExchange = 'V'
category_byte MarketCategory·.Unavailable = '␣'

abbrev pub category_names : List MarketCategory
category_names =
    MarketCategory·.NasdaqGlobalSelect ∷ MarketCategory·.NasdaqGlobalMarket ∷ MarketCategory·.NasdaqCapitalMarket ∷ MarketCategory·.Nyse
    ∷ MarketCategory·.NyseMkt ∷ MarketCategory·.NyseArca ∷ MarketCategory·.BatsZExchange ∷ MarketCategory·.InvestorsExchange ∷ []

unfoldable pub category_from : ℕ → MarketCategory
category_from b = name_of category_byte category_names MarketCategory·.Unavailable b

abbrev pub status_byte : FinancialStatus → ℕ
status_byte FinancialStatus·.Normal = 'N'
status_byte FinancialStatus·.Deficient = 'D'
status_byte FinancialStatus·.Delinquent = 'E'
status_byte FinancialStatus·.Bankrupt = 'Q'
status_byte FinancialStatus·.Suspended = 'S'
status_byte FinancialStatus·.DeficientBankrupt = 'G'
status_byte FinancialStatus·.DeficientDelinquent = 'H'
status_byte FinancialStatus·.DelinquentBankrupt = 'J'
status_byte FinancialStatus·.DeficientDelinquentBankrupt = 'K'
status_byte FinancialStatus·.EtpSuspended = 'C'
status_byte FinancialStatus·.Unavailable = '␣'

abbrev pub status_names : List FinancialStatus
status_names =
    FinancialStatus·.Normal ∷ FinancialStatus·.Deficient ∷ FinancialStatus·.Delinquent ∷ FinancialStatus·.Bankrupt ∷ FinancialStatus·.Suspended
    ∷ FinancialStatus·.DeficientBankrupt ∷ FinancialStatus·.DeficientDelinquent ∷ FinancialStatus·.DelinquentBankrupt
    ∷ FinancialStatus·.DeficientDelinquentBankrupt ∷ FinancialStatus·.EtpSuspended ∷ []

unfoldable pub status_from : ℕ → FinancialStatus
status_from b = name_of status_byte status_names FinancialStatus·.Unavailable b

abbrev pub class_byte : IssueClassification → ℕ
class_byte IssueClassification·.AmericanDepositaryShare = 'A'
class_byte IssueClassification·.Bond = 'B'
class_byte IssueClassification·.CommonStock = 'C'
class_byte IssueClassification·.DepositoryReceipt = 'F'
class_byte IssueClassification·.A144 = 'I'
class_byte IssueClassification·.LimitedPartnership = 'L'
class_byte IssueClassification·.Notes = 'N'
class_byte IssueClassification·.OrdinaryShare = 'O'
class_byte IssueClassification·.PreferredStock = 'P'
class_byte IssueClassification·.OtherSecurities = 'Q'
class_byte IssueClassification·.Right = 'R'
class_byte IssueClassification·.SharesOfBeneficialInterest = 'S'
class_byte IssueClassification·.ConvertibleDebenture = 'T'
class_byte IssueClassification·.Unit = 'U'
class_byte IssueClassification·.UnitsPerBenifInt = 'V'
class_byte IssueClassification·.Warrant = 'W'

abbrev pub class_names : List IssueClassification
class_names =
    IssueClassification·.AmericanDepositaryShare ∷ IssueClassification·.Bond ∷ IssueClassification·.CommonStock
    ∷ IssueClassification·.DepositoryReceipt ∷ IssueClassification·.A144 ∷ IssueClassification·.LimitedPartnership ∷ IssueClassification·.Notes
    ∷ IssueClassification·.OrdinaryShare ∷ IssueClassification·.PreferredStock ∷ IssueClassification·.OtherSecurities ∷ IssueClassification·.Right
    ∷ IssueClassification·.SharesOfBeneficialInterest ∷ IssueClassification·.ConvertibleDebenture ∷ IssueClassification·.Unit
    ∷ IssueClassification·.UnitsPerBenifInt ∷ []

unfoldable pub class_from : ℕ → IssueClassification
class_from b = name_of class_byte class_names IssueClassification·.Warrant b

abbrev pub tier_byte : LuldRefPriceTier → ℕ
tier_byte LuldRefPriceTier·.Tier1 = '1'
tier_byte LuldRefPriceTier·.Tier2 = '2'
tier_byte LuldRefPriceTier·.Na = '␣'

abbrev pub tier_names : List LuldRefPriceTier
tier_names = LuldRefPriceTier·.Tier1 ∷ LuldRefPriceTier·.Tier2 ∷ []

unfoldable pub tier_from : ℕ → LuldRefPriceTier
tier_from b = name_of tier_byte tier_names LuldRefPriceTier·.Na b

abbrev pub maker_mode_byte : MarketMakerMode → ℕ
maker_mode_byte MarketMakerMode·.Normal = 'N'
maker_mode_byte MarketMakerMode·.Passive = 'P'
maker_mode_byte MarketMakerMode·.Syndicate = 'S'
maker_mode_byte MarketMakerMode·.Presyndicate = 'R'
maker_mode_byte MarketMakerMode·.Penalty = 'L'

abbrev pub maker_mode_names : List MarketMakerMode
maker_mode_names = MarketMakerMode·.Normal ∷ MarketMakerMode·.Passive ∷ MarketMakerMode·.Syndicate ∷ MarketMakerMode·.Presyndicate ∷ []

unfoldable pub maker_mode_from : ℕ → MarketMakerMode
maker_mode_from b = name_of maker_mode_byte maker_mode_names MarketMakerMode·.Penalty b

abbrev pub participant_state_byte : MarketParticipantState → ℕ
participant_state_byte MarketParticipantState·.Active = 'A'
participant_state_byte MarketParticipantState·.Excused = 'E'
participant_state_byte MarketParticipantState·.Withdrawn = 'W'
participant_state_byte MarketParticipantState·.Suspended = 'S'
participant_state_byte MarketParticipantState·.Deleted = 'D'

abbrev pub participant_state_names : List MarketParticipantState
participant_state_names =
    MarketParticipantState·.Active ∷ MarketParticipantState·.Excused ∷ MarketParticipantState·.Withdrawn ∷ MarketParticipantState·.Suspended ∷ []

unfoldable pub participant_state_from : ℕ → MarketParticipantState
participant_state_from b = name_of participant_state_byte participant_state_names MarketParticipantState·.Deleted b

abbrev pub action_byte : RegShoAction → ℕ
action_byte RegShoAction·.None = '0'
action_byte RegShoAction·.Intraday = '1'
action_byte RegShoAction·.Extant = '2'

abbrev pub action_names : List RegShoAction
action_names = RegShoAction·.None ∷ RegShoAction·.Intraday ∷ []

unfoldable pub action_from : ℕ → RegShoAction
action_from b = name_of action_byte action_names RegShoAction·.Extant b

abbrev pub trading_state_byte : TradingState → ℕ
trading_state_byte TradingState·.Halted = 'H'
trading_state_byte TradingState·.Paused = 'P'
trading_state_byte TradingState·.QuotationOnly = 'Q'
trading_state_byte TradingState·.Trading = 'T'

abbrev pub trading_state_names : List TradingState
trading_state_names = TradingState·.Halted ∷ TradingState·.Paused ∷ TradingState·.QuotationOnly ∷ []

unfoldable pub trading_state_from : ℕ → TradingState
trading_state_from b = name_of trading_state_byte trading_state_names TradingState·.Trading b

abbrev pub side_byte : Side → ℕ
side_byte Side·.Buy = 'B'
side_byte Side·.Sell = 'S'

abbrev pub side_names : List Side
side_names = Side·.Buy ∷ []

unfoldable pub side_from : ℕ → Side
side_from b = name_of side_byte side_names Side·.Sell b

abbrev pub direction_byte : ImbalanceDirection → ℕ
direction_byte ImbalanceDirection·.Buy = 'B'
direction_byte ImbalanceDirection·.Sell = 'S'
direction_byte ImbalanceDirection·.NoImbalance = 'N'
direction_byte ImbalanceDirection·.InsufficientOrders = 'O'

abbrev pub direction_names : List ImbalanceDirection
direction_names = ImbalanceDirection·.Buy ∷ ImbalanceDirection·.Sell ∷ ImbalanceDirection·.NoImbalance ∷ []

unfoldable pub direction_from : ℕ → ImbalanceDirection
direction_from b = name_of direction_byte direction_names ImbalanceDirection·.InsufficientOrders b

abbrev pub cross_byte : CrossType → ℕ
cross_byte CrossType·.Opening = 'O'
cross_byte CrossType·.Closing = 'C'
cross_byte CrossType·.IpoOrHalted = 'H'
cross_byte CrossType·.Intraday = 'I'
cross_byte CrossType·.ExtendedTradingClose = 'A'

abbrev pub cross_names : List CrossType
cross_names = CrossType·.Opening ∷ CrossType·.Closing ∷ CrossType·.IpoOrHalted ∷ CrossType·.Intraday ∷ []

unfoldable pub cross_from : ℕ → CrossType
cross_from b = name_of cross_byte cross_names CrossType·.ExtendedTradingClose b

abbrev pub qualifier_byte : IpoReleaseQualifier → ℕ
qualifier_byte IpoReleaseQualifier·.Anticipated = 'A'
qualifier_byte IpoReleaseQualifier·.Cancelled = 'C'

abbrev pub qualifier_names : List IpoReleaseQualifier
qualifier_names = IpoReleaseQualifier·.Anticipated ∷ []

unfoldable pub qualifier_from : ℕ → IpoReleaseQualifier
qualifier_from b = name_of qualifier_byte qualifier_names IpoReleaseQualifier·.Cancelled b

abbrev pub level_byte : LevelBreached → ℕ
level_byte LevelBreached·.L1 = '1'
level_byte LevelBreached·.L2 = '2'
level_byte LevelBreached·.L3 = '3'

abbrev pub level_names : List LevelBreached
level_names = LevelBreached·.L1 ∷ LevelBreached·.L2 ∷ []

unfoldable pub level_from : ℕ → LevelBreached
level_from b = name_of level_byte level_names LevelBreached·.L3 b

abbrev pub market_byte : MarketCode → ℕ
market_byte MarketCode·.Nasdaq = 'Q'
market_byte MarketCode·.Bx = 'B'
market_byte MarketCode·.Psx = 'X'

abbrev pub market_names : List MarketCode
market_names = MarketCode·.Nasdaq ∷ MarketCode·.Bx ∷ []

unfoldable pub market_from : ℕ → MarketCode
market_from b = name_of market_byte market_names MarketCode·.Psx b

abbrev pub halt_byte : HaltAction → ℕ
halt_byte HaltAction·.Halted = 'H'
halt_byte HaltAction·.Resumed = 'T'

abbrev pub halt_names : List HaltAction
halt_names = HaltAction·.Halted ∷ []

unfoldable pub halt_from : ℕ → HaltAction
halt_from b = name_of halt_byte halt_names HaltAction·.Resumed b

abbrev pub interest_byte : InterestFlag → ℕ
interest_byte InterestFlag·.RPIAvailableBuySide = 'B'
interest_byte InterestFlag·.RPIAvailableSellSide = 'S'
interest_byte InterestFlag·.RPIAvailableBothSides = 'A'
interest_byte InterestFlag·.RPINoneAvailable = 'N'

abbrev pub interest_names : List InterestFlag
interest_names = InterestFlag·.RPIAvailableBuySide ∷ InterestFlag·.RPIAvailableSellSide ∷ InterestFlag·.RPIAvailableBothSides ∷ []

unfoldable pub interest_from : ℕ → InterestFlag
interest_from b = name_of interest_byte interest_names InterestFlag·.RPINoneAvailable b

abbrev pub flag_byte : Option Bool → ℕ
flag_byte (Some true) = 'Y'
flag_byte (Some false) = 'N'
flag_byte None = '␣'

abbrev pub flag_names : List (Option Bool)
flag_names = Some true ∷ Some false ∷ []

unfoldable pub flag_from : ℕ → Option Bool
flag_from b = name_of flag_byte flag_names None b

abbrev pub etp_flag_byte : EtpFlag → ℕ
etp_flag_byte EtpFlag·.Yes = 'Y'
etp_flag_byte EtpFlag·.No = 'N'
etp_flag_byte EtpFlag·.M = 'M'
etp_flag_byte EtpFlag·.Absent = '␣'

abbrev pub etp_flag_names : List EtpFlag
etp_flag_names = EtpFlag·.Yes ∷ EtpFlag·.No ∷ EtpFlag·.M ∷ []

unfoldable pub etp_flag_from : ℕ → EtpFlag
etp_flag_from b = name_of etp_flag_byte etp_flag_names EtpFlag·.Absent b

abbrev pub yes_no_byte : Bool → ℕ
yes_no_byte true = 'Y'
yes_no_byte false = 'N'

-- production, or test
abbrev pub authenticity_byte : Bool → ℕ
authenticity_byte true = 'P'
authenticity_byte false = 'T'

unfoldable pub subtype_byte : IssueSubType → ℕ
subtype_byte IssueSubType·.PreferredTrustSecurities = pair 'A' '␣'
subtype_byte IssueSubType·.AlphaIndexETNs = pair 'A' 'I'
subtype_byte IssueSubType·.IndexBasedDerivative = pair 'B' '␣'
subtype_byte IssueSubType·.CommonShares = pair 'C' '␣'
subtype_byte IssueSubType·.CommodityBasedTrustShares = pair 'C' 'B'
subtype_byte IssueSubType·.CommodityFuturesTrustShares = pair 'C' 'F'
subtype_byte IssueSubType·.CommodityLinkedSecurities = pair 'C' 'L'
subtype_byte IssueSubType·.CommodityIndexTrustShares = pair 'C' 'M'
subtype_byte IssueSubType·.CollateralizedMortgageObligation = pair 'C' 'O'
subtype_byte IssueSubType·.CurrencyTrustShares = pair 'C' 'T'
subtype_byte IssueSubType·.CommodityCurrencyLinkedSecurities = pair 'C' 'U'
subtype_byte IssueSubType·.CurrencyWarrants = pair 'C' 'W'
subtype_byte IssueSubType·.GlobalDepositaryShares = pair 'D' '␣'
subtype_byte IssueSubType·.ETFPortfolioDepositaryReceipt = pair 'E' '␣'
subtype_byte IssueSubType·.EquityGoldShares = pair 'E' 'G'
subtype_byte IssueSubType·.ETNEquityIndexLinkedSecurities = pair 'E' 'I'
subtype_byte IssueSubType·.ExchangeTradedManagedFunds = pair 'E' 'M'
subtype_byte IssueSubType·.ExchangeTradedNotes = pair 'E' 'N'
subtype_byte IssueSubType·.EquityUnits = pair 'E' 'U'
subtype_byte IssueSubType·.Holdrs = pair 'F' '␣'
subtype_byte IssueSubType·.ETNFixedIncomeLinkedSecurities = pair 'F' 'I'
subtype_byte IssueSubType·.ETNFuturesLinkedSecurities = pair 'F' 'L'
subtype_byte IssueSubType·.GlobalShares = pair 'G' '␣'
subtype_byte IssueSubType·.ETFIndexFundShares = pair 'I' '␣'
subtype_byte IssueSubType·.InterestRate = pair 'I' 'R'
subtype_byte IssueSubType·.IndexWarrant = pair 'I' 'W'
subtype_byte IssueSubType·.IndexLinkedExchangeableNotes = pair 'I' 'X'
subtype_byte IssueSubType·.CorporateBackedTrustSecurity = pair 'J' '␣'
subtype_byte IssueSubType·.ContingentLitigationRight = pair 'L' '␣'
subtype_byte IssueSubType·.Llc = pair 'L' 'L'
subtype_byte IssueSubType·.EquityBasedDerivative = pair 'M' '␣'
subtype_byte IssueSubType·.ManagedFundShares = pair 'M' 'F'
subtype_byte IssueSubType·.ETNMultiFactorIndexLinkedSecurities = pair 'M' 'L'
subtype_byte IssueSubType·.ManagedTrustSecurities = pair 'M' 'T'
subtype_byte IssueSubType·.NYRegistryShares = pair 'N' '␣'
subtype_byte IssueSubType·.OpenEndedMutualFund = pair 'O' '␣'
subtype_byte IssueSubType·.PrivatelyHeldSecurity = pair 'P' '␣'
subtype_byte IssueSubType·.PoisonPill = pair 'P' 'P'
subtype_byte IssueSubType·.PartnershipUnits = pair 'P' 'U'
subtype_byte IssueSubType·.ClosedEndFunds = pair 'Q' '␣'
subtype_byte IssueSubType·.RegS = pair 'R' '␣'
subtype_byte IssueSubType·.CommodityRedeemableCommodityLinkedSecurities = pair 'R' 'C'
subtype_byte IssueSubType·.ETNRedeemableFuturesLinkedSecurities = pair 'R' 'F'
subtype_byte IssueSubType·.REIT = pair 'R' 'T'
subtype_byte IssueSubType·.CommodityRedeemableCurrencyLinkedSecurities = pair 'R' 'U'
subtype_byte IssueSubType·.Seed = pair 'S' '␣'
subtype_byte IssueSubType·.SpotRateClosing = pair 'S' 'C'
subtype_byte IssueSubType·.SpotRateIntraday = pair 'S' 'I'
subtype_byte IssueSubType·.TrackingStock = pair 'T' '␣'
subtype_byte IssueSubType·.TrustCertificates = pair 'T' 'C'
subtype_byte IssueSubType·.TrustUnits = pair 'T' 'U'
subtype_byte IssueSubType·.Portal = pair 'U' '␣'
subtype_byte IssueSubType·.ContingentValueRight = pair 'V' '␣'
subtype_byte IssueSubType·.TrustIssuedReceipts = pair 'W' '␣'
subtype_byte IssueSubType·.WorldCurrencyOption = pair 'W' 'C'
subtype_byte IssueSubType·.Trust = pair 'X' '␣'
subtype_byte IssueSubType·.Other = pair 'Y' '␣'
subtype_byte IssueSubType·.NotApplicable = pair 'Z' '␣'

abbrev pub subtype_names : List IssueSubType
subtype_names =
    IssueSubType·.PreferredTrustSecurities ∷ IssueSubType·.AlphaIndexETNs ∷ IssueSubType·.IndexBasedDerivative ∷ IssueSubType·.CommonShares
    ∷ IssueSubType·.CommodityBasedTrustShares ∷ IssueSubType·.CommodityFuturesTrustShares ∷ IssueSubType·.CommodityLinkedSecurities
    ∷ IssueSubType·.CommodityIndexTrustShares ∷ IssueSubType·.CollateralizedMortgageObligation ∷ IssueSubType·.CurrencyTrustShares
    ∷ IssueSubType·.CommodityCurrencyLinkedSecurities ∷ IssueSubType·.CurrencyWarrants ∷ IssueSubType·.GlobalDepositaryShares
    ∷ IssueSubType·.ETFPortfolioDepositaryReceipt ∷ IssueSubType·.EquityGoldShares ∷ IssueSubType·.ETNEquityIndexLinkedSecurities
    ∷ IssueSubType·.ExchangeTradedManagedFunds ∷ IssueSubType·.ExchangeTradedNotes ∷ IssueSubType·.EquityUnits ∷ IssueSubType·.Holdrs
    ∷ IssueSubType·.ETNFixedIncomeLinkedSecurities ∷ IssueSubType·.ETNFuturesLinkedSecurities ∷ IssueSubType·.GlobalShares
    ∷ IssueSubType·.ETFIndexFundShares ∷ IssueSubType·.InterestRate ∷ IssueSubType·.IndexWarrant ∷ IssueSubType·.IndexLinkedExchangeableNotes
    ∷ IssueSubType·.CorporateBackedTrustSecurity ∷ IssueSubType·.ContingentLitigationRight ∷ IssueSubType·.Llc ∷ IssueSubType·.EquityBasedDerivative
    ∷ IssueSubType·.ManagedFundShares ∷ IssueSubType·.ETNMultiFactorIndexLinkedSecurities ∷ IssueSubType·.ManagedTrustSecurities
    ∷ IssueSubType·.NYRegistryShares ∷ IssueSubType·.OpenEndedMutualFund ∷ IssueSubType·.PrivatelyHeldSecurity ∷ IssueSubType·.PoisonPill
    ∷ IssueSubType·.PartnershipUnits ∷ IssueSubType·.ClosedEndFunds ∷ IssueSubType·.RegS ∷ IssueSubType·.CommodityRedeemableCommodityLinkedSecurities
    ∷ IssueSubType·.ETNRedeemableFuturesLinkedSecurities ∷ IssueSubType·.REIT ∷ IssueSubType·.CommodityRedeemableCurrencyLinkedSecurities
    ∷ IssueSubType·.Seed ∷ IssueSubType·.SpotRateClosing ∷ IssueSubType·.SpotRateIntraday ∷ IssueSubType·.TrackingStock
    ∷ IssueSubType·.TrustCertificates ∷ IssueSubType·.TrustUnits ∷ IssueSubType·.Portal ∷ IssueSubType·.ContingentValueRight
    ∷ IssueSubType·.TrustIssuedReceipts ∷ IssueSubType·.WorldCurrencyOption ∷ IssueSubType·.Trust ∷ IssueSubType·.Other ∷ []

unfoldable pub subtype_from : ℕ → IssueSubType
subtype_from v = name_of subtype_byte subtype_names IssueSubType·.NotApplicable v

-- two bytes, judged as a subtype
unfoldable pub subtype_of : ℕ → ℕ → Got
subtype_of v at = placed at (cond (member v subtypes) (fine v) (wrong 2 0))
