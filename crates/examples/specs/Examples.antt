-- The scope's examples 1 to 11, its further runs and its page of five lines, the two messages of the later edition by both, and what a strict reading refuses: a
-- table for each reading, of which bytes, which answer is asked of them, and what it is. An accepted message stands whole.
-- Assumes nothing.
use Rattle.std.specs.Prelude.{ℕ, ◌≡◌, true, false, List, [], ◌∷◌, ◌++◌, ◌⊎◌, take, None, Some, Ok, Err}
use Rattle.format.specs.declared.Edition.TheVariants.{Old, Later}
use Rattle.format.specs.declared.Reading.{Reading}
use Rattle.format.specs.declared.Fault.TheVariants.{Short}
use Rattle.format.specs.Meaning.{bad, refusal}
use Rattle.codes.specs.declared.trade.CrossType.TheVariants.{Intraday}
use Rattle.codes.specs.declared.market.EventCode.TheVariants.{StartOfMessages}
use Rattle.codes.specs.declared.market.TradingState.TheVariants.{Halted}
use Rattle.codes.specs.declared.market.MarketCode.TheVariants.{Bx}
use Rattle.codes.specs.declared.market.HaltAction.TheVariants.{Resumed}
use Rattle.codes.specs.declared.stock.EtpFlag.TheVariants.{M}
use Rattle.codes.specs.declared.stock.FinancialStatus.TheVariants.{Normal}
use Rattle.codes.specs.declared.stock.IssueClassification.TheVariants.{OtherSecurities}
use Rattle.codes.specs.declared.subtype.IssueSubType.TheVariants.{ETFPortfolioDepositaryReceipt}
use Rattle.codes.specs.declared.stock.LuldRefPriceTier.TheVariants.{Tier1}
use Rattle.codes.specs.declared.stock.MarketCategory.TheVariants.{NasdaqGlobalMarket}
use Rattle.codes.specs.declared.trade.Side.TheVariants.{Buy}
use Rattle.records.specs.declared.CrossTrade.{CrossTrade}
use Rattle.records.specs.declared.StockDirectory.{StockDirectory}
use Rattle.records.specs.declared.DirectListing.{DirectListing}
use Rattle.records.specs.declared.Body.{Body}
use Rattle.records.specs.declared.Body.TheVariants as Body·
use Rattle.records.specs.declared.Message.{Message}
use Rattle.reader.specs.Window.{window_of, Window}
use Rattle.walk.specs.Walk.{frame_of, Verdict}
use Rattle.walk.specs.Frames.{Entry, Walked, walk_of}

-- ---- what a row says

-- the number on the page (0: it has none), the bytes, and what the window's answer to them is; the frame rule's; the walk's
pub data Row : Type 0 where
  window : ℕ → List ℕ → Window → Row
  frame : ℕ → List ℕ → Verdict → Row
  walk : ℕ → List ℕ → Walked → Row

-- by the definitions that the contracts cite, and a reading
abbrev pub Holds : Reading → Row → Type 0
Holds rd (window e s a) = window_of rd s ≡ a
Holds rd (frame e s v) = frame_of (window_of rd) s ≡ v
Holds rd (walk e s w) = walk_of (window_of rd) s ≡ w

-- a row with its answer computed anew
abbrev pub anew : Reading → Row → Row
anew rd (window e s a) = window e s (window_of rd s)
anew rd (frame e s v) = frame e s (frame_of (window_of rd) s)
anew rd (walk e s w) = walk e s (walk_of (window_of rd) s)

-- the readings of the tables
abbrev pub old : Reading
old = record { edition = Old; strict = false }

abbrev pub later : Reading
later = record { edition = Later; strict = false }

abbrev pub strict : Reading
strict = record { edition = Old; strict = true }

abbrev pub strict-later : Reading
strict-later = record { edition = Later; strict = true }

-- r is one of the rows
abbrev pub In : Row → List Row → Type 0
In r [] = ⊥
In r (x ∷ xs) = (r ≡ x) ⊎ In r xs

-- ---- parts of the bytes, and the messages

-- behind the tag, as in line two: locate 1, tracking number 2, timestamp 2; and a message with these
abbrev head : List ℕ
head = 0x00 ∷ 0x01 ∷ 0x00 ∷ 0x02 ∷ 0x00 ∷ 0x00 ∷ 0x00 ∷ 0x00 ∷ 0x00 ∷ 0x02 ∷ []

abbrev with-head : ℕ → Body → Message
with-head t b = record { tag = t; stock_locate = 1; tracking_number = 2; timestamp = 2; body = b }

-- a number of eight bytes, 42; one of four, 100; a stock
abbrev n8 : List ℕ
n8 = 0x00 ∷ 0x00 ∷ 0x00 ∷ 0x00 ∷ 0x00 ∷ 0x00 ∷ 0x00 ∷ 0x2a ∷ []

abbrev n4 : List ℕ
n4 = 0x00 ∷ 0x00 ∷ 0x00 ∷ 0x64 ∷ []

abbrev stock : List ℕ
stock = 0x41 ∷ 0x41 ∷ 0x50 ∷ 0x4c ∷ 0x20 ∷ 0x20 ∷ 0x20 ∷ 0x20 ∷ []

-- line one behind its length, and the message that it is
abbrev line-one : List ℕ
line-one = 0x53 ∷ 0x00 ∷ 0x00 ∷ 0x00 ∷ 0x00 ∷ 0x00 ∷ 0x00 ∷ 0x00 ∷ 0x00 ∷ 0x00 ∷ 0x01 ∷ 0x4f ∷ []

abbrev opens : Message
opens = record { tag = 0x53; stock_locate = 0; tracking_number = 0; timestamp = 1; body = Body·.SystemEvent StartOfMessages }

-- a Q with the cross code I (49)
abbrev q-with-i : List ℕ
q-with-i = 0x00 ∷ 0x28 ∷ 0x51 ∷ head ++ n8 ++ stock ++ n4 ++ n8 ++ (0x49 ∷ [])

abbrev intraday : CrossTrade
intraday = record { shares = 42; stock = 0x4141504c20202020; cross_price = 100; match_number = 42; cross_type = Intraday }

-- an I with the cross code I, at place 50
abbrev i-with-i : List ℕ
i-with-i = 0x00 ∷ 0x32 ∷ 0x49 ∷ head ++ n8 ++ n8 ++ (0x42 ∷ []) ++ stock ++ n4 ++ n4 ++ n4 ++ (0x49 ∷ 0x20 ∷ [])

-- an R with M (4d) at place 35
abbrev r-with-m : List ℕ
r-with-m =
    0x00 ∷ 0x27 ∷ 0x52 ∷ head ++ stock
    -- category, status; round lot; lots only, class, subtype
    ++ (0x47 ∷ 0x4e ∷ []) ++ n4 ++ (0x4e ∷ 0x51 ∷ 0x45 ∷ 0x20 ∷ [])
    -- authenticity, short sale, IPO, LULD tier, ETP; leverage; inverse
    ++ (0x50 ∷ 0x4e ∷ 0x20 ∷ 0x31 ∷ 0x4d ∷ []) ++ n4 ++ (0x4e ∷ [])

abbrev etp-m : StockDirectory
etp-m = record {
  stock = 0x4141504c20202020;
  market_category = NasdaqGlobalMarket;
  financial_status = Normal;
  round_lot_size = 100;
  round_lots_only = false;
  issue_classification = OtherSecurities;
  issue_subtype = ETFPortfolioDepositaryReceipt;
  authenticity = true;
  short_sale_threshold = Some false;
  ipo_flag = None;
  luld_ref_price_tier = Tier1;
  etp_flag = M;
  etp_leverage_factor = 100;
  inverse_indicator = false;
}

-- the first 33 bytes of an A with this side and ff as its stock's first byte, at place 26; the stock's eighth is not there
abbrev a-with-ff : ℕ → List ℕ
a-with-ff side = 0x00 ∷ 0x24 ∷ 0x41 ∷ head ++ n8 ++ (side ∷ []) ++ n4 ++ (0xff ∷ 0x41 ∷ 0x50 ∷ 0x4c ∷ 0x20 ∷ 0x20 ∷ 0x20 ∷ [])

-- an A with this stock
abbrev a-with-stock : List ℕ → List ℕ
a-with-stock t = 0x00 ∷ 0x24 ∷ 0x41 ∷ head ++ n8 ++ (0x42 ∷ []) ++ n4 ++ t ++ n4

-- its first 33 bytes: the stock's eighth is not there
abbrev a-short : List ℕ → List ℕ
a-short t = take 33 (a-with-stock t)

-- the message that one is whose stock is this number
abbrev adds : ℕ → Message
adds t = with-head 0x41 (Body·.AddOrder (record { reference = 42; side = Buy; shares = 100; stock = t; price = 100; mpid = None }))

-- stocks: with é (c3 a9) in it, at place 29; with this byte, at place 28; with ff, at 28, behind 1f; with the two ends of what a strict reading allows
abbrev accented : List ℕ
accented = 0x43 ∷ 0x41 ∷ 0x46 ∷ 0xc3 ∷ 0xa9 ∷ 0x20 ∷ 0x20 ∷ 0x20 ∷ []

abbrev odd : ℕ → List ℕ
odd b = 0x43 ∷ 0x41 ∷ b ∷ 0x20 ∷ 0x20 ∷ 0x20 ∷ 0x20 ∷ 0x20 ∷ []

abbrev broken : List ℕ
broken = 0x43 ∷ 0x1f ∷ 0xff ∷ 0x20 ∷ 0x20 ∷ 0x20 ∷ 0x20 ∷ 0x20 ∷ []

abbrev ends : List ℕ
ends = 0x20 ∷ 0x7e ∷ 0x20 ∷ 0x20 ∷ 0x20 ∷ 0x20 ∷ 0x20 ∷ 0x7e ∷ []

-- an F with 1f in its stock, at place 28, and ff as its mpid's first byte, at place 38
abbrev f-with-both : List ℕ
f-with-both = 0x00 ∷ 0x28 ∷ 0x46 ∷ head ++ n8 ++ (0x42 ∷ []) ++ n4 ++ odd 0x1f ++ n4 ++ (0xff ∷ 0x20 ∷ 0x20 ∷ 0x20 ∷ [])

-- an A with 1f in its stock and a bad side, at place 21
abbrev a-bad-side : List ℕ
a-bad-side = 0x00 ∷ 0x24 ∷ 0x41 ∷ head ++ n8 ++ (0x58 ∷ []) ++ n4 ++ odd 0x1f ++ n4

-- the time of a day, and the one before it; 13 bytes with the tag 5a and this time, of which the last is not there in the first 12; and a D with it
abbrev day-over : List ℕ
day-over = 0x4e ∷ 0x94 ∷ 0x91 ∷ 0x4f ∷ 0x00 ∷ 0x00 ∷ []

abbrev day-last : List ℕ
day-last = 0x4e ∷ 0x94 ∷ 0x91 ∷ 0x4e ∷ 0xff ∷ 0xff ∷ []

abbrev z-at : List ℕ → List ℕ
z-at time = 0x00 ∷ 0x0c ∷ 0x5a ∷ 0x00 ∷ 0x01 ∷ 0x00 ∷ 0x02 ∷ time

abbrev d-at : List ℕ → List ℕ
d-at time = 0x00 ∷ 0x13 ∷ 0x44 ∷ 0x00 ∷ 0x01 ∷ 0x00 ∷ 0x02 ∷ time ++ n8

abbrev deletes-at : ℕ → Message
deletes-at time = record { tag = 0x44; stock_locate = 1; tracking_number = 2; timestamp = time; body = Body·.DeleteOrder 42 }

-- an H with this reserved byte, at place 22
abbrev h-with : ℕ → List ℕ
h-with reserved = 0x00 ∷ 0x19 ∷ 0x48 ∷ head ++ stock ++ (0x48 ∷ reserved ∷ 0x4c ∷ 0x55 ∷ 0x44 ∷ 0x50 ∷ [])

-- line two of the page behind its length, and the message that it is
abbrev line-two : List ℕ
line-two = 0x44 ∷ head ++ n8

abbrev deletes : Message
deletes = with-head 0x44 (Body·.DeleteOrder 42)

-- line three behind its length
abbrev line-three : List ℕ
line-three = 0x53 ∷ 0x00 ∷ 0x00 ∷ 0x00 ∷ 0x00 ∷ 0x00 ∷ 0x00 ∷ 0x00 ∷ 0x00 ∷ 0x00 ∷ 0x03 ∷ 0x58 ∷ []

-- an h, with the code B at place 21 and this one at 22
abbrev h-with-action : ℕ → List ℕ
h-with-action action = 0x00 ∷ 0x15 ∷ 0x68 ∷ head ++ stock ++ (0x42 ∷ action ∷ [])

abbrev resumes : Message
resumes = with-head 0x68 (Body·.OperationalHalt 0x4141504c20202020 Bx Resumed)

-- an O: six numbers behind the code Y at place 21
abbrev o-whole : List ℕ
o-whole = 0x00 ∷ 0x30 ∷ 0x4f ∷ head ++ stock ++ (0x59 ∷ []) ++ n4 ++ n4 ++ n4 ++ n8 ++ n4 ++ n4

abbrev listed : DirectListing
listed = record {
  stock = 0x4141504c20202020;
  open_eligibility = true;
  minimum_price = 100;
  maximum_price = 100;
  near_execution_price = 100;
  near_execution_time = 42;
  lower_collar = 100;
  upper_collar = 100;
}

-- the first 13 bytes of an h, and a frame that is shorter
abbrev h-thirteen : List ℕ
h-thirteen = 0x00 ∷ 0x15 ∷ 0x68 ∷ head

abbrev h-short : List ℕ
h-short = 0x00 ∷ 0x02 ∷ 0x68 ∷ 0x00 ∷ []

-- a frame of this size at this offset, accepted; refused
abbrev accepted : ℕ → ℕ → Message → Entry
accepted at size m = record { at = at; size = size; what = Ok m }

abbrev refused : ℕ → ℕ → ℕ → ℕ → Entry
refused at size number place = record { at = at; size = size; what = Err (refusal number place) }

abbrev walked : List Entry → ℕ → ℕ → Walked
walked es tail left = record { entries = es; tail = tail; left = left }

-- ---- the tables: the old edition's

abbrev pub rows : List Row
rows =
    -- Empty window: incomplete.
    window 1 [] (Err Short)
    -- Line one above: accepted, 14.
    ∷ window 2 (0x00 ∷ 0x0c ∷ line-one) (Ok (opens, 14))
    -- Its first 13 bytes: incomplete.
    ∷ window 3 (0x00 ∷ 0x0c ∷ 0x53 ∷ 0x00 ∷ 0x00 ∷ 0x00 ∷ 0x00 ∷ 0x00 ∷ 0x00 ∷ 0x00 ∷ 0x00 ∷ 0x00 ∷ 0x01 ∷ []) (Err Short)
    -- Line one with length ffff: accepted, 14; in the walk a tail of 14.
    ∷ window 4 (0xff ∷ 0xff ∷ line-one) (Ok (opens, 14))
    ∷ walk 4 (0xff ∷ 0xff ∷ line-one) (walked [] 0 14)
    -- 13 bytes with tag 5a: 1 at 2; 12 of them: incomplete.
    ∷ window 5 (0x00 ∷ 0x0c ∷ 0x5a ∷ 0x00 ∷ 0x00 ∷ 0x00 ∷ 0x00 ∷ 0x00 ∷ 0x00 ∷ 0x00 ∷ 0x00 ∷ 0x00 ∷ 0x01 ∷ []) (Err (bad 1 2))
    ∷ window 5 (0x00 ∷ 0x0c ∷ 0x5a ∷ 0x00 ∷ 0x00 ∷ 0x00 ∷ 0x00 ∷ 0x00 ∷ 0x00 ∷ 0x00 ∷ 0x00 ∷ 0x00 ∷ []) (Err Short)
    -- Line three: 2 at 13.
    ∷ window 6 (0x00 ∷ 0x0c ∷ line-three) (Err (bad 2 13))
    -- Cross code I: legal in Q, 2 at 50 in I.
    ∷ window 7 q-with-i (Ok (with-head 0x51 (Body·.CrossTrade intraday), 42))
    ∷ window 7 i-with-i (Err (bad 2 50))
    -- R with M at 35: M.
    ∷ window 8 r-with-m (Ok (with-head 0x52 (Body·.StockDirectory etp-m), 41))
    -- A with byte ff as the stock's first, 34 bytes: 3 at 26; 33 bytes: incomplete; a bad side too: 2 at 21.
    ∷ window 9 (a-with-ff 0x42 ++ (0x20 ∷ [])) (Err (bad 3 26))
    ∷ window 9 (a-with-ff 0x42) (Err Short)
    ∷ window 9 (a-with-ff 0x58 ++ (0x20 ∷ [])) (Err (bad 2 21))
    -- ff as the stock's third: 3 at 28; e2 82 28 from its second on: 3 at 27, where the sequence begins that 28 breaks.
    ∷ window 9 (a-with-stock (0x43 ∷ 0x41 ∷ 0xff ∷ 0x20 ∷ 0x20 ∷ 0x20 ∷ 0x20 ∷ 0x20 ∷ [])) (Err (bad 3 28))
    ∷ window 9 (a-with-stock (0x43 ∷ 0xe2 ∷ 0x82 ∷ 0x28 ∷ 0x20 ∷ 0x20 ∷ 0x20 ∷ 0x20 ∷ [])) (Err (bad 3 27))
    -- Frames 0000 and 00015a: 20.
    ∷ frame 10 (0x00 ∷ 0x00 ∷ []) (Err (refusal 20 0))
    ∷ frame 10 (0x00 ∷ 0x01 ∷ 0x5a ∷ []) (Err (refusal 20 0))
    ∷ walk 10 (0x00 ∷ 0x00 ∷ 0x00 ∷ 0x01 ∷ 0x5a ∷ []) (walked (refused 0 2 20 0 ∷ refused 2 3 20 0 ∷ []) 5 0)
    -- Line one with length 000d and one byte 00 more: 21.
    ∷ frame 11 (0x00 ∷ 0x0d ∷ line-one ++ (0x00 ∷ [])) (Err (refusal 21 0))
    ∷ walk 11 (0x00 ∷ 0x0d ∷ line-one ++ (0x00 ∷ [])) (walked (refused 0 15 21 0 ∷ []) 15 0)
    -- Further runs: c3 a9 in a stock is legal, c3 as its eighth byte is 3, at 33: the stock's end cuts its sequence off.
    ∷ window 0 (a-with-stock accented) (Ok (adds 0x434146c3a9202020, 38))
    ∷ window 0 (a-with-stock (0x43 ∷ 0x41 ∷ 0x46 ∷ 0x20 ∷ 0x20 ∷ 0x20 ∷ 0x20 ∷ 0xc3 ∷ [])) (Err (bad 3 33))
    -- Any reserved byte of an H is kept.
    ∷ window 0 (h-with 0x58) (Ok (with-head 0x48 (Body·.TradingAction 0x4141504c20202020 Halted 0x58 0x4c554450), 27))
    -- The page's five lines, as `frames` prints them.
    ∷ walk 0 ((0x00 ∷ 0x0c ∷ line-one) ++ (0x00 ∷ 0x13 ∷ line-two) ++ (0x00 ∷ 0x0c ∷ line-three) ++ (0x00 ∷ 0x01 ∷ 0x5a ∷ 0x00 ∷ []))
    (walked (accepted 0 14 opens ∷ accepted 14 21 deletes ∷ refused 35 14 2 13 ∷ refused 49 3 20 0 ∷ []) 52 1)
    -- Both tags of the later edition: 1 at 2 where 13 bytes are there, however the body goes on; 20 where the frame is shorter.
    ∷ window 0 h-thirteen (Err (bad 1 2))
    ∷ window 0 (h-with-action 0x54) (Err (bad 1 2))
    ∷ window 0 o-whole (Err (bad 1 2))
    ∷ walk 0 (h-with-action 0x54 ++ o-whole ++ h-short) (walked (refused 0 23 1 2 ∷ refused 23 50 1 2 ∷ refused 73 4 20 0 ∷ []) 77 0)
    -- What a strict reading refuses, by this one: any time and any UTF-8 are legal; ff behind 1f is 3; of two bad fields the first that is bad here.
    ∷ window 0 (z-at day-over) (Err (bad 1 2))
    ∷ window 0 (d-at day-over) (Ok (deletes-at 86400000000000, 21))
    ∷ window 0 (a-with-stock (odd 0x1f)) (Ok (adds 0x43411f2020202020, 38))
    ∷ window 0 (a-with-stock (odd 0x7f)) (Ok (adds 0x43417f2020202020, 38))
    ∷ window 0 (a-with-stock broken) (Err (bad 3 28))
    ∷ window 0 f-with-both (Err (bad 3 38))
    ∷ []

-- ---- the later edition's

abbrev pub later_rows : List Row
later_rows =
    -- Both messages; one byte less: incomplete; an action that is no code: 2 at 22; 20 where the frame is shorter than a header.
    window 0 (h-with-action 0x54) (Ok (resumes, 23))
    ∷ window 0 o-whole (Ok (with-head 0x4f (Body·.DirectListing listed), 50))
    ∷ window 0 h-thirteen (Err Short)
    ∷ window 0 (h-with-action 0x51) (Err (bad 2 22))
    ∷ walk 0 (h-with-action 0x54 ++ o-whole ++ h-short)
    (walked (accepted 0 23 resumes ∷ accepted 23 50 (with-head 0x4f (Body·.DirectListing listed)) ∷ refused 73 4 20 0 ∷ []) 77 0)
    -- As by the old edition: 5a is no tag, line one is accepted.
    ∷ window 5 (0x00 ∷ 0x0c ∷ 0x5a ∷ 0x00 ∷ 0x00 ∷ 0x00 ∷ 0x00 ∷ 0x00 ∷ 0x00 ∷ 0x00 ∷ 0x00 ∷ 0x00 ∷ 0x01 ∷ []) (Err (bad 1 2))
    ∷ window 2 (0x00 ∷ 0x0c ∷ line-one) (Ok (opens, 14))
    ∷ []

-- ---- the old edition's, read strictly

abbrev pub strict-rows : List Row
strict-rows =
    -- 13 bytes with tag 5a and the time of a day: 4 at 7, before the tag; the time before it: 1 at 2; 12 of them: incomplete.
    window 0 (z-at day-over) (Err (bad 4 7))
    ∷ window 0 (take 12 (z-at day-over)) (Err Short)
    ∷ window 0 (z-at day-last) (Err (bad 1 2))
    ∷ window 0 (take 12 (z-at day-last)) (Err Short)
    ∷ window 0 (d-at day-over) (Err (bad 4 7))
    ∷ window 0 (d-at day-last) (Ok (deletes-at 86399999999999, 21))
    -- c3 a9 in a stock: 5 where c3 stands; 1f and 7f: 5; without the stock's eighth byte: incomplete; 20 and 7e: accepted.
    ∷ window 0 (a-with-stock accented) (Err (bad 5 29))
    ∷ window 0 (a-short accented) (Err Short)
    ∷ window 0 (a-with-stock (odd 0x1f)) (Err (bad 5 28))
    ∷ window 0 (a-short (odd 0x1f)) (Err Short)
    ∷ window 0 (a-with-stock (odd 0x7f)) (Err (bad 5 28))
    ∷ window 0 (a-short (odd 0x7f)) (Err Short)
    ∷ window 0 (a-with-stock ends) (Ok (adds 0x207e20202020207e, 38))
    -- ff behind 1f: 3 where ff stands, as in the ordinary reading.
    ∷ window 0 (a-with-stock broken) (Err (bad 3 28))
    ∷ window 0 (a-short broken) (Err Short)
    -- Of two bad fields the first: a bad side before a stock with 1f, 2 at 21; a stock with 1f before an mpid with ff, 5 at 28.
    ∷ window 0 a-bad-side (Err (bad 2 21))
    ∷ window 0 f-with-both (Err (bad 5 28))
    -- The walk steps over each.
    ∷ walk 0 (d-at day-over ++ a-with-stock accented ++ (0x00 ∷ 0x0c ∷ line-one) ++ z-at day-over)
    (walked (refused 0 21 4 7 ∷ refused 21 38 5 29 ∷ accepted 59 14 opens ∷ []) 73 13)
    -- Tags of the later edition: 1, unless 4 comes first.
    ∷ window 0 h-thirteen (Err (bad 1 2))
    ∷ []

-- ---- the later edition's, read strictly

abbrev pub strict-later-rows : List Row
strict-later-rows =
    -- Both messages, as in the ordinary reading; 7f as an h's stock's third byte: 5 at 15; an action that is no code, behind it: 5 all the same.
    window 0 (h-with-action 0x54) (Ok (resumes, 23))
    ∷ window 0 o-whole (Ok (with-head 0x4f (Body·.DirectListing listed), 50))
    ∷ window 0 h-thirteen (Err Short)
    ∷ window 0 (0x00 ∷ 0x15 ∷ 0x68 ∷ head ++ odd 0x7f ++ (0x42 ∷ 0x51 ∷ [])) (Err (bad 5 15))
    ∷ window 0 (h-with-action 0x51) (Err (bad 2 22))
    ∷ []
