-- Every row of the tables of examples holds: a table with all answers computed anew is the table itself.
-- Assumes nothing.
use mathlib.Core.Path.{◌≡◌, refl}
use mathlib.Core.List.{List, [], ◌∷◌, map}
use mathlib.Core.Logic.{inl, inr}
use Rattle.format.specs.Codes.{side, yes_no, trading_state, direction, imbalance_cross, cross, category, status, class, authenticity, flag, tier, etp_flag, event, market, halt, subtypes}
use Rattle.format.specs.Utf8.{utf_step, utf_run, well_formed, bad_from, first_bad}
use Rattle.format.specs.Layout.{strays, first_stray, field_by, judge_by}
use Rattle.format.specs.Rows.{window}
use Rattle.codes.specs.Names.{event_from, category_from, status_from, class_from, subtype_byte, subtype_from, cross_from, side_from, flag_from, tier_from, etp_flag_from, trading_state_from, market_from, halt_from}
use Rattle.format.specs.declared.Reading.{Reading}
use Rattle.records.specs.Values.{body_from}
use Rattle.reader.specs.Window.{window_of}
use Rattle.walk.specs.Walk.{frame_of}
use Rattle.walk.specs.Frames.{walk_at}
use Rattle.examples.specs.Examples.{Row, Holds, anew, old, later, strict, strict-later, In, rows, later_rows, strict-rows, strict-later-rows}
use Rattle.examples.specs.Examples as Examples

table : map (anew old) rows ≡ rows
unfolding window_of window field_by judge_by utf_step utf_run well_formed bad_from first_bad body_from frame_of walk_at
    side yes_no trading_state direction imbalance_cross cross category status class authenticity flag tier etp_flag event subtypes
    event_from category_from status_from class_from subtype_byte subtype_from
    cross_from side_from flag_from tier_from etp_flag_from trading_state_from
table = refl

later-table : map (anew later) later_rows ≡ later_rows
unfolding window_of window field_by judge_by utf_step utf_run well_formed body_from frame_of walk_at yes_no event market halt event_from market_from halt_from
later-table = refl

strict-table : map (anew strict) strict-rows ≡ strict-rows
unfolding window_of window field_by judge_by strays first_stray utf_step utf_run well_formed bad_from first_bad body_from frame_of walk_at side event event_from side_from
strict-table = refl

strict-later-table : map (anew strict-later) strict-later-rows ≡ strict-later-rows
unfolding window_of window field_by judge_by strays first_stray utf_step utf_run well_formed body_from yes_no market halt market_from halt_from
strict-later-table = refl

holds : (rd : Reading) (r : Row) → anew rd r ≡ r → Holds rd r
holds rd (Examples.window e s a) q = cc
holds rd (Examples.frame e s v) q = cc
holds rd (Examples.walk e s w) q = cc

each : (rd : Reading) (rs : List Row) → map (anew rd) rs ≡ rs → (r : Row) → In r rs → Holds rd r
each rd [] q r h = absurd h
each rd (x ∷ xs) q r (inl e) = rw e (holds rd x cc)
each rd (x ∷ xs) q r (inr h) = let t : map (anew rd) xs ≡ xs = cc in each rd xs t r h

pub examples : (r : Row) → In r rows → Holds old r
examples = each old rows table

pub later-examples : (r : Row) → In r later_rows → Holds later r
later-examples = each later later_rows later-table

pub strict-examples : (r : Row) → In r strict-rows → Holds strict r
strict-examples = each strict strict-rows strict-table

pub strict-later-examples : (r : Row) → In r strict-later-rows → Holds strict-later r
strict-later-examples = each strict-later strict-later-rows strict-later-table
