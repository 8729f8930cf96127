-- What the leaves' answers mean, in the numbers and values of the layouts.
-- Assumes nothing.
use Rattle.std.specs.Prelude.{ℕ, ◌≡◌, ◌⊎◌, List, [], ◌∷◌, Option, Some, None, Result, Ok, Err}
use Rattle.format.specs.Utf8.{fresh, tail}
use Rattle.format.specs.Utf8 as Utf8
use Rattle.format.specs.Layout.{Got, got, short, refused, Answer, accepted, incomplete, refuses}
use Rattle.format.specs.declared.Fault.{Fault}
use Rattle.format.specs.declared.Fault.TheVariants.{Short, Refused}
use Rattle.format.specs.declared.Refusal.{Refusal}
use Rattle.format.specs.declared.Header.{Header}
use Rattle.format.specs.declared.Utf.{Utf}
use Rattle.format.specs.declared.Utf.TheVariants.{Fresh, Tail, Bad}

-- how many bytes a number has
abbrev pub IsWidth : ℕ → Type 0
IsWidth w = (w ≡ 1) ⊎ ((w ≡ 2) ⊎ ((w ≡ 4) ⊎ (w ≡ 8)))

-- a refusal by its number and place; and the fault that it is
abbrev pub refusal : ℕ → ℕ → Refusal
refusal n p = record { number = n; place = p }

abbrev pub bad : ℕ → ℕ → Fault
bad n p = Refused (refusal n p)

-- a fault, as a field's answer and as a window's
abbrev pub fault_m : Fault → Got
fault_m Short = short
fault_m (Refused r) = refused r.number r.place

abbrev pub stop_m : Fault → Answer
stop_m Short = incomplete
stop_m (Refused r) = refuses r.number r.place

-- a field's answer, by the number that its value is
abbrev pub field_m : {A : Type 0} → (A → ℕ) → Result A Fault → Got
field_m value (Ok v) = got (value v)
field_m value (Err e) = fault_m e

-- a body's or a message's answer, by the values that it has: with the place behind it
abbrev pub answer_m : {A : Type 0} → (A → List ℕ) → Result (A × ℕ) Fault → Answer
answer_m values (Ok (x, n)) = accepted (values x) n
answer_m values (Err e) = stop_m e

abbrev pub utf_m : Utf → Utf8.Utf
utf_m Fresh = fresh
utf_m (Tail n lo hi) = tail n lo hi
utf_m Bad = Utf8.bad

-- the header, from the tag on
abbrev pub header_m : Option Header → Answer
header_m (Some h) = accepted (h.tag ∷ h.stock_locate ∷ h.tracking_number ∷ h.timestamp ∷ []) 13
header_m None = incomplete
