-- No contract of a reading call allows two answers: each definition of what an answer means has a left inverse. (The calls whose contract is an
-- equation on the answer itself need none of this.)
-- Assumes nothing.
use mathlib.Core.Path.{◌≡◌, refl, sym, ap, ◌∙◌}
use mathlib.Core.Bool.{Bool, true, false, cond}
use Prim.Native.Nat.{ℕ}
use Rattle.std.proofs.Common.{Option, Some, None, Result, Ok, Err}
use lib.Dec.{eqb}
use lib.ListN.{get_or}
use Rattle.format.specs.Ascii.{'Y', 'P'}
use Rattle.format.specs.Layout.{Got, got, short, refused, Answer, accepted, incomplete, refuses}
use Rattle.format.specs.Meaning.{bad, field_m, header_m}
use Rattle.format.specs.declared.Fault.{Fault}
use Rattle.format.specs.declared.Fault.TheVariants.{Short, Refused}
use Rattle.format.specs.declared.Header.{Header}
use Rattle.codes.specs.Names.{subtype_byte, subtype_from, event_byte, event_from, category_byte, category_from, status_byte, status_from, class_byte, class_from, tier_byte, tier_from, maker_mode_byte, maker_mode_from, participant_state_byte, participant_state_from, action_byte, action_from, trading_state_byte, trading_state_from, side_byte, side_from, direction_byte, direction_from, cross_byte, cross_from, qualifier_byte, qualifier_from, level_byte, level_from, market_byte, market_from, halt_byte, halt_from, interest_byte, interest_from, flag_byte, flag_from, etp_flag_byte, etp_flag_from, yes_no_byte, authenticity_byte}
use Rattle.codes.specs.declared.subtype.IssueSubType.{IssueSubType}
use Rattle.records.specs.declared.Body.{Body}
use Rattle.codes.proofs.Back.{subtype-back, event-back, category-back, status-back, class_back, tier-back, maker_mode-back, participant_state-back, action-back, trading_state-back, side-back, direction-back, cross-back, qualifier-back, level-back, market-back, halt-back, interest-back, flag-back, etp_flag-back, yes_no-back, authenticity-back}
use Rattle.records.specs.Values.{body_from, body_m}
use Rattle.records.proofs.Back.{body_back}
use Rattle.reader.specs.Window.{window_m, window_from, Window}
use Rattle.reader.proofs.Back.{window-back}

-- a meaning m that has a left inverse is one-to-one
pub one-to-one : {A B : Type 0} (m : A → B) (back : B → A) → ((r : A) → back (m r) ≡ r) → (r r' : A) → m r ≡ m r' → r ≡ r'
one-to-one m back h r r' e = sym (h r) ∙ ap back e ∙ h r'

-- the meaning of a test's answer is that of the answer which the test picks
pub pushed : {A B : Type 0} (m : A → B) (b : Bool) (x y : A) → m (cond b x y) ≡ cond b (m x) (m y)
pushed m true x y = refl
pushed m false x y = refl

-- a field's answer, from what it means
abbrev field_from : {A : Type 0} → (ℕ → A) → Got → Result A Fault
field_from back (got v) = Ok (back v)
field_from back short = Err Short
field_from back (refused n p) = Err (bad n p)

field-back : {A : Type 0} (value : A → ℕ) (back : ℕ → A) → ((x : A) → back (value x) ≡ x) → (r : Result A Fault) → field_from back (field_m value r) ≡ r
field-back value back h (Ok x) = ap Ok (h x)
field-back value back h (Err Short) = refl
field-back value back h (Err (Refused r)) = refl

abbrev header_from : Answer → Option Header
header_from (accepted v n) =
    Some (record { tag = get_or v 0 0; stock_locate = get_or v 1 0; tracking_number = get_or v 2 0; timestamp = get_or v 3 0 })
header_from incomplete = None
header_from (refuses n p) = None

header-back : (r : Option Header) → header_from (header_m r) ≡ r
header-back (Some h) = refl
header-back None = refl

abbrev body_read_from : Answer → Result (Body × ℕ) Fault
body_read_from (accepted v n) = Ok (body_from v, n)
body_read_from incomplete = Err Short
body_read_from (refuses n p) = Err (bad n p)

body-read-back : (r : Result (Body × ℕ) Fault) → body_read_from (body_m r) ≡ r
body-read-back (Ok (b, n)) = simp body_back
body-read-back (Err Short) = refl
body-read-back (Err (Refused r)) = refl

-- number_at and text_at; code_at and subtype_at, whose names have their bytes back; read_header; the bodies; parse_message
pub field-unique : {A : Type 0} (value : A → ℕ) (back : ℕ → A) → ((x : A) → back (value x) ≡ x) → (r r' : Result A Fault)
    → field_m value r ≡ field_m value r' → r ≡ r'
field-unique value back h = one-to-one (field_m value) (field_from back) (field-back value back h)

-- two answers whose values are told by these numbers, and which mean the same, are one
abbrev pub OneName : {A : Type 0} → (A → ℕ) → Type 0
OneName {A} value = (r r' : Result A Fault) → field_m value r ≡ field_m value r' → r ≡ r'

pub number-unique : (r r' : Result ℕ Fault) → field_m (λ v. v) r ≡ field_m (λ v. v) r' → r ≡ r'
number-unique = field-unique (λ v. v) (λ v. v) (λ v. refl)

pub subtype-unique : (r r' : Result IssueSubType Fault) → field_m subtype_byte r ≡ field_m subtype_byte r' → r ≡ r'
subtype-unique = field-unique subtype_byte subtype_from subtype-back

-- of code_at, for each set; the two sets of crosses have the same names
pub event-unique : OneName event_byte
event-unique = field-unique event_byte event_from event-back

pub category-unique : OneName category_byte
category-unique = field-unique category_byte category_from category-back

pub status-unique : OneName status_byte
status-unique = field-unique status_byte status_from status-back

pub class-unique : OneName class_byte
class-unique = field-unique class_byte class_from class_back

pub tier-unique : OneName tier_byte
tier-unique = field-unique tier_byte tier_from tier-back

pub maker_mode-unique : OneName maker_mode_byte
maker_mode-unique = field-unique maker_mode_byte maker_mode_from maker_mode-back

pub participant_state-unique : OneName participant_state_byte
participant_state-unique = field-unique participant_state_byte participant_state_from participant_state-back

pub action-unique : OneName action_byte
action-unique = field-unique action_byte action_from action-back

pub trading_state-unique : OneName trading_state_byte
trading_state-unique = field-unique trading_state_byte trading_state_from trading_state-back

pub side-unique : OneName side_byte
side-unique = field-unique side_byte side_from side-back

pub direction-unique : OneName direction_byte
direction-unique = field-unique direction_byte direction_from direction-back

pub cross-unique : OneName cross_byte
cross-unique = field-unique cross_byte cross_from cross-back

pub qualifier-unique : OneName qualifier_byte
qualifier-unique = field-unique qualifier_byte qualifier_from qualifier-back

pub level-unique : OneName level_byte
level-unique = field-unique level_byte level_from level-back

pub market-unique : OneName market_byte
market-unique = field-unique market_byte market_from market-back

pub halt-unique : OneName halt_byte
halt-unique = field-unique halt_byte halt_from halt-back

pub interest-unique : OneName interest_byte
interest-unique = field-unique interest_byte interest_from interest-back

pub flag-unique : OneName flag_byte
flag-unique = field-unique flag_byte flag_from flag-back

pub etp_flag-unique : OneName etp_flag_byte
etp_flag-unique = field-unique etp_flag_byte etp_flag_from etp_flag-back

pub yes_no-unique : OneName yes_no_byte
yes_no-unique = field-unique yes_no_byte (λ b. eqb b 'Y') yes_no-back

pub authenticity-unique : OneName authenticity_byte
authenticity-unique = field-unique authenticity_byte (λ b. eqb b 'P') authenticity-back

pub header-unique : (r r' : Option Header) → header_m r ≡ header_m r' → r ≡ r'
header-unique = one-to-one header_m header_from header-back

pub body-unique : (r r' : Result (Body × ℕ) Fault) → body_m r ≡ body_m r' → r ≡ r'
body-unique = one-to-one body_m body_read_from body-read-back

pub window-unique : (r r' : Window) → window_m r ≡ window_m r' → r ≡ r'
window-unique = one-to-one window_m window_from window-back
