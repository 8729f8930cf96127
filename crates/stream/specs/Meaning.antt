-- What an answer of the stream means, in the scope's numbers and values; and the answer that a meaning has.
-- Assumes nothing.
use Rattle.std.specs.Prelude.{ℕ, List}
use Rattle.reader.specs.Window.{message_values, message_from}
use Rattle.stream.specs.declared.Answer.{Answer}
use Rattle.stream.specs.declared.Answer.TheVariants.{Message, Wants, Ready, Nothing, Refused}

-- a message, with its values; the window wants bytes; ready; nothing more; refused, with number and place
pub data Reply : Type 0 where
  message : List ℕ → Reply
  wants : Reply
  ready : Reply
  nothing : Reply
  refused : ℕ → ℕ → Reply

abbrev pub reply_m : Answer → Reply
reply_m (Message m) = message (message_values m)
reply_m Wants = wants
reply_m Ready = ready
reply_m Nothing = nothing
reply_m (Refused n p) = refused n p

abbrev pub reply_from : Reply → Answer
reply_from (message v) = Message (message_from v)
reply_from wants = Wants
reply_from ready = Ready
reply_from nothing = Nothing
reply_from (refused n p) = Refused n p

-- the number and the place of a refusal; 0 and 0 of any other reply
abbrev pub number_in : Reply → ℕ
number_in (refused n p) = n
number_in (message v) = 0
number_in wants = 0
number_in ready = 0
number_in nothing = 0

abbrev pub place_in : Reply → ℕ
place_in (refused n p) = p
place_in (message v) = 0
place_in wants = 0
place_in ready = 0
place_in nothing = 0

-- the same of an answer
abbrev pub number_of : Answer → ℕ
number_of a = number_in (reply_m a)

abbrev pub place_of : Answer → ℕ
place_of a = place_in (reply_m a)
