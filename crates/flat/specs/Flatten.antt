-- What is told of an answer, on every answer.
-- Assumes nothing.
use Rattle.std.specs.Prelude.{ℕ, zero, suc, List, [], ◌∷◌}
use Rattle.reader.specs.Window.{message_values}
use Rattle.stream.specs.declared.Step.{Step}
use Rattle.stream.specs.declared.Answer.{Answer}
use Rattle.stream.specs.declared.Answer.TheVariants as Answer·
use Rattle.flat.specs.declared.Flat.{Flat}
use Rattle.flat.specs.declared.Said.{Said}
use Rattle.flat.specs.declared.Said.TheVariants as Said·

-- n numbers: these, and zeros behind them
abbrev pub padded : ℕ → List ℕ → List ℕ
padded zero vs = []
padded (suc n) [] = 0 ∷ padded n []
padded (suc n) (v ∷ vs) = v ∷ padded n vs

-- a body's values, behind four places for the header's
abbrev pub body_numbers : List ℕ → List ℕ
body_numbers vs = padded 19 (0 ∷ 0 ∷ 0 ∷ 0 ∷ vs)

-- an answer: of a message its values
abbrev pub said_of : Answer → Said
said_of (Answer·.Message m) = Said·.Message (padded 19 (message_values m))
said_of Answer·.Wants = Said·.Wants
said_of Answer·.Ready = Said·.Ready
said_of Answer·.Nothing = Said·.Nothing
said_of (Answer·.Refused number place) = Said·.Refused number place

-- a step
abbrev pub step_flat : Step → Flat
step_flat x = record { state = x.state; said = said_of x.answer }
