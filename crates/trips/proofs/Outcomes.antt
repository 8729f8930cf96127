-- The meaning of the writer's answer determines it; and what writing answers, in the scope's numbers.
-- Assumes nothing.
use Prim.Native.Nat.{ℕ, ◌+◌, ◌^◌}
use mathlib.Core.Path.{◌≡◌, refl, ap, ◌∙◌}
use mathlib.Core.Bool.{Bool, cond}
use lib.Dec.{ltb, leb}
use Rattle.std.specs.Prelude.{Ok, Err}
use Rattle.format.specs.Rows.{size_of}
use Rattle.format.specs.declared.Reading.{Reading}
use Rattle.laws.proofs.Unique.{one-to-one, pushed}
use Rattle.records.specs.declared.Message.{Message}
use Rattle.records.specs.Values.{values}
use Rattle.writer.specs.Meaning.{Outcome, refused, outcome_m, outcome_from}
use Rattle.writer.specs.declared.WriteError.{WriteError}
use Rattle.writer.specs.declared.WriteError.TheVariants.{Kind, Time, Text, Intraday, Room}
use Rattle.writer.specs.Writing.{Written, number_of, tag_fine, texts_of, intraday, written_of}
use Rattle.trips.specs.Outcomes.{outcome_of}

pub outcome-back : (w : Written) → outcome_from (outcome_m w) ≡ w
outcome-back (Ok n) = refl
outcome-back (Err Kind) = refl
outcome-back (Err Time) = refl
outcome-back (Err Text) = refl
outcome-back (Err Intraday) = refl
outcome-back (Err Room) = refl

pub outcome-unique : (w w' : Written) → outcome_m w ≡ outcome_m w' → w ≡ w'
outcome-unique = one-to-one outcome_m outcome_from outcome-back

-- a test whose other way refuses
refusing : (b : Bool) (x : Written) (e : WriteError) {y : Outcome} → outcome_m x ≡ y → outcome_m (cond b x (Err e)) ≡ cond b y (refused (number_of e))
refusing b x e q = pushed outcome_m b x (Err e) ∙ ap (λ (z : Outcome). cond b z (refused (number_of e))) q

pub write-means : (rd : Reading) (m : Message) (room : ℕ) → outcome_m (written_of rd m room) ≡ outcome_of rd m room
unfolding written_of
write-means rd m room =
    let fits = leb (2 + size_of m.tag) room in
    let day = intraday (values m.body) in
    refusing (tag_fine rd m) _ Kind
    (refusing (ltb m.timestamp (2 ^ 48)) _ Time
    (refusing (texts_of (values m.body)) _ Text
    (pushed outcome_m day (Err Intraday) _ ∙ ap (cond day (refused 43)) (pushed outcome_m fits (Ok (2 + size_of m.tag)) (Err Room)))))
