-- What a window's answer means; and the answer that a meaning has, so that the layers above can say which answer the reader gives to which bytes. And what a
-- strict reading makes of an answer.
-- Assumes nothing.
use Rattle.std.specs.Prelude.{ℕ, ◌≡◌, true, List, ◌∷◌, get_or, drop, Result, Ok, Err}
use Rattle.format.specs.Layout.{Answer, accepted, incomplete, refuses}
use Rattle.format.specs.Rows.{window}
use Rattle.format.specs.Meaning.{bad, answer_m}
use Rattle.format.specs.declared.Fault.{Fault}
use Rattle.format.specs.declared.Fault.TheVariants.{Short}
use Rattle.format.specs.declared.Reading.{Reading}
use Rattle.records.specs.declared.Message.{Message}
use Rattle.records.specs.Values.{values, body_from}

-- a message's values: tag, locate, tracking number, timestamp, then its body's, which begin with the body's own tag
abbrev pub message_values : Message → List ℕ
message_values m = m.tag ∷ m.stock_locate ∷ m.tracking_number ∷ m.timestamp ∷ values m.body

-- a message and the bytes that it consumed, or why there is none
abbrev pub Window : Type 0
Window = Result (Message × ℕ) Fault

abbrev pub window_m : Window → Answer
window_m = answer_m message_values

abbrev pub message_from : List ℕ → Message
message_from v = record {
  tag = get_or v 0 0;
  stock_locate = get_or v 1 0;
  tracking_number = get_or v 2 0;
  timestamp = get_or v 3 0;
  body = body_from (drop 4 v);
}

abbrev pub window_from : Answer → Window
window_from (accepted v n) = Ok (message_from v, n)
window_from incomplete = Err Short
window_from (refuses n p) = Err (bad n p)

-- the reader's answer to a window of bytes, by a reading
unfoldable pub window_of : Reading → List ℕ → Window
window_of rd s = window_from (window rd s)

-- an answer by a reading, beside the ordinary one w: the same; or, where the reading is strict, 4 at place 7, or 5
pub data Stricter (rd : Reading) (w : Window) : Window → Type 0 where
  same : Stricter rd w w
  four : rd.strict ≡ true → Stricter rd w (Err (bad 4 7))
  five : {p : ℕ} → rd.strict ≡ true → Stricter rd w (Err (bad 5 p))
