-- What an input holds, by cases of the reader's answer to it: that fuel beyond its length changes nothing makes the equations free of fuel.
-- Assumes nothing.
use Prim.Native.Nat.{ℕ, zero, suc, ◌≤◌, ◌<◌}
use mathlib.Core.Path.{◌≡◌, refl, ap, ◌∙◌}
use mathlib.Core.List.{List, [], ◌∷◌}
use native.Mathlib.Omega.{arith}
use lib.ListN.{length, drop, length-drop}
use Rattle.std.specs.Prelude.{Ok, Err}
use Rattle.format.specs.declared.Reading.{Reading}
use Rattle.format.specs.Layout.{field_by}
use Rattle.format.specs.Rows.{window}
use Rattle.format.specs.declared.Fault.TheVariants.{Short, Refused as Bad}
use Rattle.format.specs.Meaning.{bad as fault_at}
use Rattle.records.specs.declared.Message.{Message as Record}
use Rattle.reader.specs.Window.{window_of, Window}
use Rattle.laws.proofs.Answers.{covers}
use Rattle.laws.proofs.Numbers.{number-low}
use Rattle.stream.specs.declared.Answer.TheVariants.{Refused}
use Rattle.heard.specs.Heard.{Heard, before, ends, stop_at, heard_by, heard_at, heard_of, Stop, nothing, bad, inside}

-- a message has a byte at least, and no more than there are
pub some : (rd : Reading) (s : List ℕ) (m : Record) (n : ℕ) → window_of rd s ≡ Ok (m, n) → (0 < n) × (n ≤ length s)
some rd s m n e = let c = covers rd s m n e in (omega (arith, c.0), c.1)

-- no byte, no message
empty : (rd : Reading) → window_of rd [] ≡ Err Short
unfolding window_of window field_by
empty rd = refl

-- two ways on that agree where they are asked
by-same : (s : List ℕ) (w : Window) (f g : ℕ → Heard) → ((m : Record) (n : ℕ) → w ≡ Ok (m, n) → f n ≡ g n) → heard_by s w f ≡ heard_by s w g
by-same s (Ok (m, n)) f g h = ap (before (m ∷ [])) (h m n refl)
by-same s (Err Short) f g h = refl
by-same s (Err (Bad r)) f g h = refl

same : (rd : Reading) (j k : ℕ) (s : List ℕ) → length s ≤ j → length s ≤ k → heard_at rd j s ≡ heard_at rd k s
unfolding heard_at
same rd zero zero s a b = refl
same rd zero (suc k) [] a b = rw (empty rd)
same rd zero (suc k) (x ∷ s) a b = absurd (omega arith)
same rd (suc j) zero [] a b = rw (empty rd)
same rd (suc j) zero (x ∷ s) a b = absurd (omega arith)
same rd (suc j) (suc k) s a b =
    by-same s (window_of rd s) _ _
    (λ m n e. let c = some rd s m n e in let l = length-drop n s in same rd j k (drop n s) (omega arith) (omega arith))

by_as : (rd : Reading) (k : ℕ) (s : List ℕ) (w : Window) → window_of rd s ≡ w → length s ≤ k → heard_of rd s ≡ heard_by s w (λ n. heard_at rd k (drop n s))
unfolding heard_at
by_as rd k s w e l = same rd (length s) (suc k) s (omega arith) (omega arith) ∙ ap (λ (x : Window). heard_by s x (λ n. heard_at rd k (drop n s))) e

-- a message, then what is heard behind it
pub heard-message : (rd : Reading) (s : List ℕ) (m : Record) (n : ℕ) → window_of rd s ≡ Ok (m, n) → heard_of rd s ≡ before (m ∷ []) (heard_of rd (drop n s))
heard-message rd s m n e =
    by_as rd (length s) s (Ok (m, n)) e (omega arith)
    ∙ ap (before (m ∷ [])) (same rd (length s) (length (drop n s)) (drop n s) (omega (arith, length-drop n s)) (omega arith))

pub heard-cut : (rd : Reading) (s : List ℕ) → window_of rd s ≡ Err Short → heard_of rd s ≡ ends (stop_at s)
heard-cut rd s e = by_as rd (length s) s (Err Short) e (omega arith)

pub heard-bad : (rd : Reading) (s : List ℕ) (n p : ℕ) → window_of rd s ≡ Err (fault_at n p) → heard_of rd s ≡ ends (Refused n p)
heard-bad rd s n p e = by_as rd (length s) s (Err (fault_at n p)) e (omega arith)

-- ---- the stop

cut-stop : (s : List ℕ) → Stop (stop_at s)
cut-stop [] = nothing
cut-stop (x ∷ s) = inside

by-stop : (rd : Reading) (s : List ℕ) (w : Window) (go : ℕ → Heard) → window_of rd s ≡ w → ((n : ℕ) → Stop (go n).stop) → Stop (heard_by s w go).stop
by-stop rd s (Ok (m, n)) go e f = f n
by-stop rd s (Err Short) go e f = cut-stop s
by-stop rd s (Err (Bad r)) go e f = let l = number-low rd s r.number r.place e in bad l.0 l.1

at-stop : (rd : Reading) (k : ℕ) (s : List ℕ) → Stop (heard_at rd k s).stop
unfolding heard_at
at-stop rd zero s = cut-stop s
at-stop rd (suc k) s = by-stop rd s (window_of rd s) _ refl (λ n. at-stop rd k (drop n s))

pub stop_is : (rd : Reading) (s : List ℕ) → Stop (heard_of rd s).stop
stop_is rd s = at-stop rd (length s) s
