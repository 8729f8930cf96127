-- Each code of a set is the byte of its name: computed over the set.
-- Assumes nothing.
use Rattle.std.specs.Prelude.{ℕ, ◌≡◌, refl, Bool, true, ◌&&◌, List, [], ◌∷◌, eqb}
use Rattle.format.specs.Ascii.{'Y', 'P'}
use Rattle.format.specs.Codes.{side, yes_no, trading_state, direction, imbalance_cross, qualifier, maker_mode, participant_state, interest, cross, category, status, class, authenticity, flag, tier, etp_flag, event, level, action, market, halt, subtypes}
use Rattle.codes.specs.Names.{event_byte, event_from, category_byte, category_from, status_byte, status_from, class_byte, class_from, tier_byte, tier_from, maker_mode_byte, maker_mode_from, participant_state_byte, participant_state_from, action_byte, action_from, trading_state_byte, trading_state_from, side_byte, side_from, direction_byte, direction_from, cross_byte, cross_from, qualifier_byte, qualifier_from, level_byte, level_from, market_byte, market_from, halt_byte, halt_from, interest_byte, interest_from, flag_byte, flag_from, etp_flag_byte, etp_flag_from, yes_no_byte, authenticity_byte, subtype_byte, subtype_from}

unfoldable pub backs : {A : Type 0} → (A → ℕ) → (ℕ → A) → List ℕ → Bool
backs byte from [] = true
backs byte from (k ∷ ks) = eqb (byte (from k)) k && backs byte from ks

pub side-coded : backs side_byte side_from side ≡ true
unfolding backs side side_from
side-coded = refl

pub trading_state-coded : backs trading_state_byte trading_state_from trading_state ≡ true
unfolding backs trading_state trading_state_from
trading_state-coded = refl

pub direction-coded : backs direction_byte direction_from direction ≡ true
unfolding backs direction direction_from
direction-coded = refl

-- those of I are among the crosses
pub imbalance_cross-coded : backs cross_byte cross_from imbalance_cross ≡ true
unfolding backs imbalance_cross cross_from
imbalance_cross-coded = refl

pub qualifier-coded : backs qualifier_byte qualifier_from qualifier ≡ true
unfolding backs qualifier qualifier_from
qualifier-coded = refl

pub maker_mode-coded : backs maker_mode_byte maker_mode_from maker_mode ≡ true
unfolding backs maker_mode maker_mode_from
maker_mode-coded = refl

pub participant_state-coded : backs participant_state_byte participant_state_from participant_state ≡ true
unfolding backs participant_state participant_state_from
participant_state-coded = refl

pub interest-coded : backs interest_byte interest_from interest ≡ true
unfolding backs interest interest_from
interest-coded = refl

pub cross-coded : backs cross_byte cross_from cross ≡ true
unfolding backs cross cross_from
cross-coded = refl

pub category-coded : backs category_byte category_from category ≡ true
unfolding backs category category_from
category-coded = refl

pub status-coded : backs status_byte status_from status ≡ true
unfolding backs status status_from
status-coded = refl

pub class-coded : backs class_byte class_from class ≡ true
unfolding backs class class_from
class-coded = refl

pub flag-coded : backs flag_byte flag_from flag ≡ true
unfolding backs flag flag_from
flag-coded = refl

pub etp_flag-coded : backs etp_flag_byte etp_flag_from etp_flag ≡ true
unfolding backs etp_flag etp_flag_from
etp_flag-coded = refl

pub tier-coded : backs tier_byte tier_from tier ≡ true
unfolding backs tier tier_from
tier-coded = refl

pub event-coded : backs event_byte event_from event ≡ true
unfolding backs event event_from
event-coded = refl

pub level-coded : backs level_byte level_from level ≡ true
unfolding backs level level_from
level-coded = refl

pub action-coded : backs action_byte action_from action ≡ true
unfolding backs action action_from
action-coded = refl

pub market-coded : backs market_byte market_from market ≡ true
unfolding backs market market_from
market-coded = refl

pub halt-coded : backs halt_byte halt_from halt ≡ true
unfolding backs halt halt_from
halt-coded = refl

pub yes_no-coded : backs yes_no_byte (λ b. eqb b 'Y') yes_no ≡ true
unfolding backs yes_no
yes_no-coded = refl

pub authenticity-coded : backs authenticity_byte (λ b. eqb b 'P') authenticity ≡ true
unfolding backs authenticity
authenticity-coded = refl

pub subtype-coded : backs subtype_byte subtype_from subtypes ≡ true
unfolding backs subtype_byte subtype_from subtypes
subtype-coded = refl
