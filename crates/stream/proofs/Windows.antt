-- Next, where the tests are passed: what the reader answered decides; and what a message consumed lies within the buffer.
-- Assumes nothing.
use Prim.Native.Nat.{ℕ, ◌-◌, ◌≤◌, min}
use mathlib.Core.Path.{◌≡◌, sym}
use mathlib.Core.Bool.{true}
use mathlib.Core.List.{List}
use native.Mathlib.Omega.{arith}
use borrow.Author.Tests.{eq-eqb}
use lib.ListN.{length, length-take, length-drop}
use Rattle.std.specs.Prelude.{Ok}
use Rattle.format.specs.declared.Reading.{Reading}
use Rattle.format.specs.Rows.{window}
use Rattle.records.specs.declared.Message.{Message}
use Rattle.reader.specs.Window.{window_m, window_of, Window}
use Rattle.reader.proofs.Back.{exactly}
use Rattle.laws.proofs.Answers.{covers}
use Rattle.stream.specs.declared.Stream.{Stream}
use Rattle.stream.specs.declared.Step.{Step}
use Rattle.stream.specs.Next.{window_at, next_by, next_of}
use Rattle.stream.proofs.Bounds.{bounded, joined}

-- the answer w to the window decides
abbrev pub Decides : Reading → Stream → List ℕ → Window → Type 0
Decides rd s b w = next_of rd s b ≡ next_by s w

pub decides : (rd : Reading) (s : Stream) (b : List ℕ) (r : Window) {w : Window} → length b ≡ 8192 → bounded s ≡ true
    → window_m r ≡ window rd (window_at s b) → r ≡ w → Decides rd s b w
unfolding next_of
decides rd s b r h i e d =
    let k : window_of rd (window_at s b) ≡ r = sym (exactly rd (window_at s b) r e) in
    simp (eq-eqb _ _ h, joined {A = Step}, i, k, d)

-- a message lies within the window
pub within : (rd : Reading) (s : Stream) (b : List ℕ) (m : Message) (n : ℕ) → window_of rd (window_at s b) ≡ Ok (m, n) → n ≤ s.end - s.start
within rd s b m n e =
    let h : n ≤ length (window_at s b) = (covers rd (window_at s b) m n e).1 in
    let l : n ≤ min (s.end - s.start) (length b - s.start) = simp (length-take, length-drop) at h in
    omega arith
