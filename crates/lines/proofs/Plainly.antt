-- What a line tells of a frame: a plain message of the frame's size is accepted, with the tag that stands in it; and the answer behind what is told.
-- Assumes nothing.
use Prim.Native.Nat.{ℕ, ◌≤◌, min}
use mathlib.Core.Path.{◌≡◌, refl, ap, ◌∙◌}
use mathlib.Core.Bool.{cond}
use mathlib.Core.List.{List}
use native.Mathlib.Omega.{arith}
use borrow.Author.Tests.{le-ltb}
use lib.ListN.{take, get_or}
use Rattle.std.specs.Prelude.{Ok, Err}
use Rattle.format.specs.declared.Reading.{Reading}
use Rattle.format.proofs.Bytes.{Bytes}
use Rattle.format.specs.Meaning.{refusal}
use Rattle.records.specs.declared.Message.{Message}
use Rattle.reader.specs.Window.{window_of}
use Rattle.laws.proofs.Window.{sizes-50}
use Rattle.laws.proofs.Answers.{covers, first}
use Rattle.plain.specs.Plain.{Table, plain_of}
use Rattle.plain.proofs.Accepts.{plain-accepts}
use Rattle.walk.specs.Walk.{verdict_of, judge_of, Verdict}
use Rattle.std.specs.Prelude.{Ok, Err}
use Rattle.format.specs.Meaning.{refusal}
use Rattle.lines.specs.Whole.{look_of}

pub plain-look : (rd : Reading) (s rows : List ℕ) (size : ℕ) → Bytes s → Table rd.strict rows → plain_of s rows ≡ size → 2 ≤ size → look_of (judge_of (window_of rd) s size) ≡ Ok (get_or s 2 0)
unfolding judge_of
plain-look rd s rows size b t e h =
    let f = plain-accepts rd s rows size b t e (omega arith) in
    let m : Message = f.message in
    let c = covers rd s m size f.accepted in
    let n : min size 52 ≡ size = omega (arith, c.0, sizes-50 m.tag) in
    let w : window_of rd (take (min size 52) s) ≡ Ok (m, size) = rw n (first rd s m size f.accepted) in
    let v : verdict_of (Ok (m, size)) size ≡ Ok m = ap (λ x. cond x (Err (refusal 21 0)) (Ok m)) (le-ltb size size (omega arith)) in
    ap (λ x. look_of (verdict_of x size)) w ∙ ap look_of v ∙ ap Ok f.tag

-- a tag is told of an accepted frame alone, and it is the message's
pub tag-told : (v : Verdict) (t : ℕ) → look_of v ≡ Ok t → (m : Message) × (v ≡ Ok m) × (m.tag ≡ t)
tag-told (Ok m) t e = (m, refl, cc)
tag-told (Err r) t e = absurd (let z : ◌≡◌ {A = ℕ} 0 1 = cc in omega arith)
