-- The answers that end a run of the stream.
-- Assumes nothing.
use Rattle.std.specs.Prelude.{Bool, true, false}
use Rattle.stream.specs.declared.Answer.{Answer}
use Rattle.stream.specs.declared.Answer.TheVariants.{Message, Wants, Ready, Nothing, Refused}

-- nothing more, or a refusal
unfoldable pub stops : Answer → Bool
stops (Message m) = false
stops Wants = false
stops Ready = false
stops Nothing = true
stops (Refused n p) = true
