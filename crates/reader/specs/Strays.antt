-- What the reader asks behind a body's answer: how far it was read, and in a strict reading whether a text before that place strays.
-- Assumes nothing.
use Rattle.std.specs.Prelude.{ℕ, ◌≡◌, ◌≢◌}
use Rattle.format.specs.Meaning.{bad}
use Rattle.format.specs.declared.Fault.{Fault}
use Rattle.format.specs.declared.Fault.TheVariants.{Short, Refused}

-- the place up to which a body without a value was read
abbrev pub reach_of : Fault → ℕ → ℕ
reach_of Short end = end
reach_of (Refused r) end = r.place

-- p is the place of the first text that strays, and there is one: it is refused
abbrev pub Strays : ℕ → Fault → Type 0
Strays p e = (p ≢ 0) × (e ≡ bad 5 p)
