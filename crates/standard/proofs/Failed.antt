-- What a read that failed brought.
-- Assumes nothing.
use Rattle.std.proofs.Common.{ℕ, ◌≡◌, refl, true, Ok, Err, is_err, arith}
use Rattle.std.specs.Result.{result_unwrap_or}
use Rattle.std.specs.declared.result.Result.{Result}
use Rattle.standard.specs.declared.Brought.{Brought}
use Rattle.standard.specs.declared.ReadFailed.{ReadFailed}
use Rattle.standard.specs.Reads.{bytes_of, has_failed}

none-of : (r : Result ℕ ReadFailed) → is_err r ≡ true → result_unwrap_or r 0 ≡ 0
none-of (Ok n) e = absurd (let z : ◌≡◌ {A = ℕ} 0 1 = cc in omega arith)
none-of (Err x) e = refl

-- no bytes
pub failed-none : (b : Brought) → has_failed b ≡ true → bytes_of b ≡ 0
failed-none b e = none-of b.came e
