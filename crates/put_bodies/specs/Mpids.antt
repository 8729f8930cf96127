-- The part of an add order that only F has, put into a buffer.
-- Assumes nothing.
use Rattle.std.specs.Prelude.{ℕ, Option, Some, None, ◌^◌, ◌<◌, ◌≡◌, List}
use Rattle.pen.specs.Encode.{digits, put_in}

-- the buffer s is u afterwards, and the mpid fits its field
abbrev pub PutMpid : List ℕ → Option ℕ → List ℕ → Type 0
PutMpid s None u = u ≡ s
PutMpid s (Some v) u = (u ≡ put_in s 38 (digits 4 v)) × (v < 256 ^ 4)
