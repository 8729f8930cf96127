-- What a read of standard input does to the value that tells of the reads.
-- Assumes nothing.
use Rattle.std.specs.Prelude.{ℕ, Bool, ◌+◌, ◌<◌, ◌≤◌, min, ◌≡◌, is_err}
use Rattle.std.specs.Result.{result_unwrap_or}
use Rattle.standard.specs.declared.Brought.{Brought}

-- how many bytes the last read brought: none, where it failed
abbrev pub bytes_of : Brought → ℕ
bytes_of b = result_unwrap_or b.came 0

-- whether it failed
abbrev pub has_failed : Brought → Bool
has_failed b = is_err b.came

-- from b to r, with room for n bytes
pub record Reads (b : Brought) (n : ℕ) (r : Brought) : Type 0 where
  pub room : r.room ≡ n
  pub fits : bytes_of r ≤ n
  pub total : r.total ≡ min (b.total + bytes_of r) 18446744073709551615

-- the last read had room, and brought nothing
pub record Silent (b : Brought) : Type 0 where
  pub asked : 0 < b.room
  pub none : bytes_of b ≡ 0
