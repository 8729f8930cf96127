-- `tables::mask` meets its contract. The whole table is computed and compared once.
use Rattle.format.specs.Codes.{side, yes_no, trading_state, direction, imbalance_cross, qualifier, maker_mode, participant_state, interest, cross, category, status, class, authenticity, flag, tier, etp_flag, event, level, action, market, halt}
use Rattle.tables.specs.Masks.{mask_of}
use Rattle.tables.proofs.Table.{tabled}
use Rattle.tables.proofs.mask.Goals as goal

pub returns : goal.returns
unfolding mask_of side yes_no trading_state direction imbalance_cross qualifier maker_mode participant_state interest cross category status class authenticity flag tier etp_flag event level action market halt
returns c = tabled mask_of 256 c.args.b c.ranges.b.fits
