-- What the loops need of the stream's answers: where the free part begins, and that a message is counted.
-- Assumes nothing.
use Prim.Native.Nat.{ℕ, ◌+◌, ◌≤◌}
use mathlib.Core.Path.{◌≡◌, sym, ap, ◌∙◌}
use mathlib.Core.List.{List}
use native.Mathlib.Omega.{arith}
use Rattle.format.specs.declared.Reading.{Reading}
use Rattle.stream.specs.declared.Stream.{Stream}
use Rattle.stream.specs.declared.Answer.TheVariants.{Ready}
use Rattle.stream.specs.Next.{next_of}
use Rattle.stream.specs.Room.{room_of}
use Rattle.stream_laws.proofs.Calls.{next-message, room-ready}
use Rattle.flat.specs.declared.Flat.{Flat}
use Rattle.flat.specs.Flatten.{step_flat}
use Rattle.flat.specs.declared.Said.TheVariants as Said·
use Rattle.flat.proofs.Answers.{is-message, is-ready}

pub free-inside : (s : Stream) (len : ℕ) (r : Flat) → r ≡ step_flat (room_of s len) → r.said ≡ Said·.Ready → r.state.end ≤ len
free-inside s len r e k =
    let x = room_of s len in
    let a : x.answer ≡ Ready = is-ready x.answer (ap (λ (f : Flat). f.said) (sym e) ∙ k) in
    let h = room-ready s len a in
    let g : r.state ≡ x.state = ap (λ (f : Flat). f.state) e in
    rw g (omega (arith, h.whole, h.free))

pub counted : (rd : Reading) (s : Stream) (b : List ℕ) (r : Flat) (v : List ℕ) → r ≡ step_flat (next_of rd s b) → r.said ≡ Said·.Message v → r.state.messages ≡ s.messages + 1
counted rd s b r v e k =
    let x = next_of rd s b in
    let m = is-message x.answer v (ap (λ (f : Flat). f.said) (sym e) ∙ k) in
    let g : r.state ≡ x.state = ap (λ (f : Flat). f.state) e in
    rw g (next-message rd s b m.0 m.1).messages
