-- `orders::parse_add_order` meets its contract.
use Prim.Native.Nat.{ℕ, ◌+◌}
use mathlib.Core.Path.{◌≡◌, refl}
use mathlib.Core.Bool.{Bool, true, false, cond}
use mathlib.Core.List.{List, [], ◌∷◌, ◌++◌}
use Rattle.format.specs.Ascii.{'A', 'F'}
use Rattle.format.specs.Layout.{Kind, text}
use Rattle.format.specs.Rows.{row, order, rows, found, find}
use Rattle.format.proofs.Runs.{body-stops, body_reads, end, ◌⨾◌, start, ◌▹◌}
use Rattle.records.specs.Values.{values}
use Rattle.orders.proofs.parse_add_order.Goals as goal

-- the rows of A and F, by whether there is an attribution
abbrev fields : Bool → List Kind
fields a = order ++ cond a (text 4 ∷ []) []

order_row : (a : Bool) → find rows (cond a 'F' 'A') ≡ found (row (cond a 'F' 'A') (cond a 40 36) (fields a))
order_row true = refl
order_row false = refl

pub returns-in_err-reference : goal.returns-in_err-reference
returns-in_err-reference c = body-stops values _ _ _ _ (order_row c.args.attribution) start c.in_err-reference.ensures c.from_residual.ensures.1

pub returns-in_err-side : goal.returns-in_err-side
returns-in_err-side c = body-stops values _ _ _ _ (order_row c.args.attribution) (start ▹ c.in_ok-reference.ensures) c.in_err-side.ensures c.from_residual-in_err-side.ensures.1

pub returns-in_err-shares : goal.returns-in_err-shares
returns-in_err-shares c = body-stops values _ _ _ _ (order_row c.args.attribution) (start ▹ c.in_ok-reference.ensures ▹ c.in_ok-side.ensures) c.in_err-shares.ensures c.from_residual-in_err-shares.ensures.1

pub returns-in_err-stock : goal.returns-in_err-stock
returns-in_err-stock c = body-stops values _ _ _ _ (order_row c.args.attribution) (start ▹ c.in_ok-reference.ensures ▹ c.in_ok-side.ensures ▹ c.in_ok-shares.ensures) c.in_err-stock.ensures c.from_residual-in_err-stock.ensures.1

pub returns-in_err-price : goal.returns-in_err-price
returns-in_err-price c = body-stops values _ _ _ _ (order_row c.args.attribution) (start ▹ c.in_ok-reference.ensures ▹ c.in_ok-side.ensures ▹ c.in_ok-shares.ensures ▹ c.in_ok-stock.ensures) c.in_err-price.ensures c.from_residual-in_err-price.ensures.1

pub returns-in_err-mpid : goal.returns-in_err-mpid
returns-in_err-mpid c =
    rw c.if-attribution.true
    (body-stops values 'F' _ _ _ refl
    (start ▹ c.in_ok-reference.ensures ▹ c.in_ok-side.ensures ▹ c.in_ok-shares.ensures ▹ c.in_ok-stock.ensures ▹ c.in_ok-price.ensures) c.in_err-mpid.ensures c.from_residual-in_err-mpid.ensures.1)

pub returns-then-attribution : goal.returns-then-attribution
returns-then-attribution c =
    rw c.if-attribution.true
    (body_reads 'F' _ refl
    (c.in_ok-reference.ensures ⨾ c.in_ok-side.ensures ⨾ c.in_ok-shares.ensures ⨾ c.in_ok-stock.ensures ⨾ c.in_ok-price.ensures ⨾ c.in_ok-mpid.ensures ⨾ end))

pub returns : goal.returns
returns c =
    rw c.if-attribution.false
    (body_reads 'A' _ refl
    (c.in_ok-reference.ensures ⨾ c.in_ok-side.ensures ⨾ c.in_ok-shares.ensures ⨾ c.in_ok-stock.ensures ⨾ c.in_ok-price.ensures ⨾ end))
