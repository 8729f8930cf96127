-- What is told of an answer determines its kind.
-- Assumes nothing.
use Prim.Native.Nat.{ℕ}
use mathlib.Core.Path.{◌≡◌, refl}
use mathlib.Core.List.{List}
use native.Mathlib.Omega.{arith}
use Rattle.records.specs.declared.Message.{Message as Record}
use Rattle.stream.specs.declared.Answer.{Answer}
use Rattle.stream.specs.declared.Answer.TheVariants.{Message, Wants, Ready, Nothing, Refused}
use Rattle.flat.specs.declared.Said.TheVariants as Said·
use Rattle.flat.specs.Flatten.{said_of}

-- a message is told of a message alone, and ready of ready
pub is-message : (a : Answer) (v : List ℕ) → said_of a ≡ Said·.Message v → (m : Record) × (a ≡ Message m)
is-message (Message m) v e = (m, refl)
is-message Wants v e = let z : ◌≡◌ {A = ℕ} 0 1 = cc in absurd (omega arith)
is-message Ready v e = let z : ◌≡◌ {A = ℕ} 0 1 = cc in absurd (omega arith)
is-message Nothing v e = let z : ◌≡◌ {A = ℕ} 0 1 = cc in absurd (omega arith)
is-message (Refused n p) v e = let z : ◌≡◌ {A = ℕ} 0 1 = cc in absurd (omega arith)

pub is-ready : (a : Answer) → said_of a ≡ Said·.Ready → a ≡ Ready
is-ready (Message m) e = let z : ◌≡◌ {A = ℕ} 0 1 = cc in absurd (omega arith)
is-ready Wants e = let z : ◌≡◌ {A = ℕ} 0 1 = cc in absurd (omega arith)
is-ready Ready e = refl
is-ready Nothing e = let z : ◌≡◌ {A = ℕ} 0 1 = cc in absurd (omega arith)
is-ready (Refused n p) e = let z : ◌≡◌ {A = ℕ} 0 1 = cc in absurd (omega arith)
