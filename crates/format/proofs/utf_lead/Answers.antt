-- `format::utf_lead` meets its contract.
use mathlib.Core.Path.{refl}
use native.Mathlib.Omega.{arith}
use Rattle.format.proofs.Text.{in_row, in-no-row}
use Rattle.format.proofs.utf_lead.Goals as goal

pub returns-then-b-lt128 : goal.returns-then-b-lt128
returns-then-b-lt128 c = in_row 0 0x00 _ _ _ c.args.b tt refl (omega arith) (omega arith)

pub returns-then-b-lt194 : goal.returns-then-b-lt194
returns-then-b-lt194 c = in_row 1 0x80 _ _ _ c.args.b tt refl (omega arith) (omega arith)

pub returns-then-b-lt224 : goal.returns-then-b-lt224
returns-then-b-lt224 c = in_row 2 0xc2 _ _ _ c.args.b tt refl (omega arith) (omega arith)

pub returns-then-b-lt225 : goal.returns-then-b-lt225
returns-then-b-lt225 c = in_row 3 0xe0 _ _ _ c.args.b tt refl (omega arith) (omega arith)

pub returns-then-b-lt237 : goal.returns-then-b-lt237
returns-then-b-lt237 c = in_row 4 0xe1 _ _ _ c.args.b tt refl (omega arith) (omega arith)

pub returns-then-b-lt238 : goal.returns-then-b-lt238
returns-then-b-lt238 c = in_row 5 0xed _ _ _ c.args.b tt refl (omega arith) (omega arith)

pub returns-then-b-lt240 : goal.returns-then-b-lt240
returns-then-b-lt240 c = in_row 6 0xee _ _ _ c.args.b tt refl (omega arith) (omega arith)

pub returns-then-b-lt241 : goal.returns-then-b-lt241
returns-then-b-lt241 c = in_row 7 0xf0 _ _ _ c.args.b tt refl (omega arith) (omega arith)

pub returns-then-b-lt244 : goal.returns-then-b-lt244
returns-then-b-lt244 c = in_row 8 0xf1 _ _ _ c.args.b tt refl (omega arith) (omega arith)

pub returns-then-b-lt245 : goal.returns-then-b-lt245
returns-then-b-lt245 c = in_row 9 0xf4 _ _ _ c.args.b tt refl (omega arith) (omega arith)

pub returns-else-b-lt245 : goal.returns-else-b-lt245
returns-else-b-lt245 c = in-no-row c.args.b (omega arith)
