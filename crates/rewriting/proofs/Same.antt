-- What the comparison of a message with what is written of it shows.
-- Assumes nothing.
use Prim.Native.Nat.{ℕ, ◌≤◌}
use mathlib.Core.Path.{◌≡◌, refl, sym, ap, ◌∙◌}
use mathlib.Core.Bool.{Bool, true, false, false≢true}
use Rattle.std.specs.Bool.{Decides}
use mathlib.Core.List.{List}
use native.Mathlib.Omega.{arith}
use lib.Dec.{eqb}
use lib.ListN.{length, take, drop, take-append-drop}
use borrow.Author.Tests.{eq-eqb, ne_eqb}
use Rattle.std.specs.Prelude.{Ok}
use Rattle.format.specs.Layout.{be, part}
use Rattle.format.specs.Rows.{size_of, window}
use Rattle.format.specs.declared.Reading.{Reading}
use Rattle.format.proofs.Bytes.{Bytes}
use Rattle.laws.proofs.Window.{window-keeps, window-covers}
use Rattle.records.specs.declared.Message.{Message}
use Rattle.reader.specs.Window.{message_values, window_m, Window}
use Rattle.writer.specs.Writing.{Written, written_of, buffer_after}
use Rattle.trips.proofs.Rewritten.{written_back, same-exactly}

-- a message that was read of a window's first k bytes was read of the window
pub read-of-all : (rd : Reading) (s : List ℕ) (k : ℕ) (x : Window) (m : Message) (n : ℕ) → window_m x ≡ window rd (take k s) → x ≡ Ok (m, n)
    → window_m (Ok (m, n)) ≡ window rd s
read-of-all rd s k x m n e q =
    let h : window_m (Ok (m, n)) ≡ window rd (take k s) = ap window_m (sym q) ∙ e in
    h ∙ sym (window-keeps rd (take k s) (drop k s) (λ z. let y : ◌≡◌ {A = ℕ} 0 1 = cc in omega arith)) ∙ ap (window rd) (take-append-drop k s)

pub within : (rd : Reading) (s : List ℕ) (m : Message) (n : ℕ) → window_m (Ok (m, n)) ≡ window rd s → n ≤ length s
within rd s m n e = (window-covers rd s (message_values m) n (sym e)).1

-- a message that was read of the bytes s, by a reading, is written into t by it: r tells whether it is written as it was read
module _ (rd : Reading) (s : List ℕ) (m : Message) (n : ℕ) (t : List ℕ) (b : Bytes s) (e : window_m (Ok (m, n)) ≡ window rd s) (l : n ≤ length t) where
  pub is-written : {w : Written} → w ≡ written_of rd m (length t) → w ≡ Ok n
  is-written q = q ∙ (written_back rd s m n t b e l).0

  pub is_same : (r : Bool) {u : List ℕ} → u ≡ buffer_after (Ok n) m t → Decides r (take n s ≡ take n u) → r ≡ eqb (be (part s 0 2)) (size_of m.tag)
  is_same true v c = sym (eq-eqb _ _ ((same-exactly rd s m n t b e l).1 (c.0 refl ∙ ap (take n) v)))
  is_same false v c = sym (ne_eqb _ _ (λ f. absurd (false≢true (c.1 ((same-exactly rd s m n t b e l).0 f ∙ ap (take n) (sym v))))))
