-- A part of a buffer that is handed on to be filled: what is said of the parts, said of the whole.
-- Assumes nothing.
use Prim.Native.Nat.{ℕ, ◌-◌}
use mathlib.Core.Path.{◌≡◌, ap, ◌∙◌}
use mathlib.Core.List.{List, ◌++◌, append-nil}
use native.Mathlib.Omega.{arith}
use lib.ListN.{length, take, drop, length-drop, drop_of_length-le}
use borrow.Rule.Slice.PartMut.{put_mid}
use Rattle.std.proofs.lemmas.List.{take_rest}
use Rattle.play.specs.Play.{portion_of, filled}

-- `&mut b[e..]` is lent, which is `take (length b - e) (drop e b)`, and `&s[at..]` read: ys is the part after the loan
pub handed-on : (b s ys : List ℕ) (e at n : ℕ) → ys ≡ filled (take (length b - e) (drop e b)) n (take (length s - at) (drop at s))
    → put_mid e (length b - e) b ys ≡ take e b ++ filled (drop e b) n (drop at s)
handed-on b s ys e at n h =
    let k : ys ≡ filled (drop e b) n (drop at s) = rw (take_rest b e, take_rest s at) at h in
    ap (λ (l : List ℕ). take e b ++ (ys ++ l)) (drop_of_length-le (drop e b) (simp length-drop (omega arith)))
    ∙ ap (λ (l : List ℕ). take e b ++ l) (append-nil ys ∙ k)

pub portion : (b s : List ℕ) (e at w n : ℕ) → n ≡ portion_of (length (take (length b - e) (drop e b))) (length (take (length s - at) (drop at s))) w
    → n ≡ portion_of (length b - e) (length s - at) w
portion b s e at w n h = simp (take_rest, length-drop) at h
