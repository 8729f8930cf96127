-- The reader's answer, by any reading, means what the format's definition says of the bytes; and so the answers of the stream's next, of the frame rule
-- and of the walk's step are said by that definition alone.
-- Assumes nothing.
use Prim.Native.Nat.{ℕ, ◌+◌, min}
use mathlib.Core.Path.{◌≡◌, refl, sym, ap, subst, ◌∙◌}
use mathlib.Core.Bool.{cond}
use mathlib.Core.List.{List, [], ◌∷◌, ◌++◌}
use mathlib.Core.Logic.{⊎_elim}
use native.Mathlib.Omega.{arith}
use lib.ListN.{length, get_or, take}
use lib.Dec.{ltb}
use Rattle.format.specs.Layout.{be, part, Answer, accepted, incomplete, refuses}
use Rattle.format.specs.Rows.{body_in, window}
use Rattle.format.specs.declared.Reading.{Reading}
use Rattle.format.proofs.Tests.{le-or-lt}
use Rattle.format.proofs.Strict.{ordinarily}
use Rattle.format.proofs.Windows.{window-there, window-cut}
use Rattle.laws.proofs.Window.{pre-accepted}
use Rattle.records.specs.Values.{values, body_from}
use Rattle.reader.specs.Window.{message_values, message_from, window_m, window_from, window_of}
use Rattle.walk.specs.declared.Walk.{Walk}
use Rattle.walk.specs.Walk.{frame_size, frame_of, sound_of, countable, put, own_step}
use Rattle.walk.specs.Meaning.{fault, more, frame, ruling_m, report_m}
use Rattle.demand.specs.Reports.{ruling_of, step_report}
use Rattle.demand.proofs.Reports.{frame-means, step-means}
use Rattle.stream.specs.declared.Stream.{Stream}
use Rattle.stream.specs.Meaning.{reply_m}
use Rattle.stream.specs.Next.{window_at, next_of}
use Rattle.stream_laws.specs.Replies.{next_reply}
use Rattle.stream_laws.proofs.Replies.{next-means}
use Rattle.meanings.proofs.Bodies.{body-again}

-- an accepted window: its values are those of the message made of them
values-again : (rd : Reading) (s vs : List ℕ) (n : ℕ) → window rd s ≡ accepted vs n → message_values (message_from vs) ≡ vs
values-again rd s vs n e =
    ⊎_elim
    (λ l.
    let t : ℕ = get_or s 2 0 in
    let h : List ℕ = t ∷ be (part s 3 2) ∷ be (part s 5 2) ∷ be (part s 7 6) ∷ [] in
    let p = pre-accepted h (body_in rd t s) vs n (sym (window-there rd s l) ∙ ordinarily rd s vs n e) in
    let b : values (body_from p.0) ≡ p.0 = body-again rd t s p.0 n p.1 in
    subst (λ (v : List ℕ). message_values (message_from v) ≡ v) p.2 (ap (λ (ws : List ℕ). h ++ ws) b))
    (λ l. let z : ◌≡◌ {A = ℕ} 0 1 = cc (window-cut rd s l) in absurd (omega arith))
    (le-or-lt 13 (length s))

from-again : (rd : Reading) (s : List ℕ) (a : Answer) → window rd s ≡ a → window_m (window_from a) ≡ a
from-again rd s (accepted vs n) e = ap (λ (ws : List ℕ). accepted ws n) (values-again rd s vs n e)
from-again rd s incomplete e = refl
from-again rd s (refuses n p) e = refl

-- what the reader answers to bytes means what the format's definition says of them
pub window-means : (rd : Reading) (s : List ℕ) → window_m (window_of rd s) ≡ window rd s
unfolding window_of
window-means rd s = from-again rd s (window rd s) refl

-- next answers by the definition of the window from start to end
pub next-says : (rd : Reading) (s : Stream) (b : List ℕ) → reply_m (next_of rd s b).answer ≡ next_reply s (length b) (window rd (window_at s b))
next-says rd s b = next-means rd s b ∙ ap (next_reply s (length b)) (window-means rd (window_at s b))

-- a frame's answer is that definition's for the frame's bytes alone, with 20 and 21
pub frame-says : (rd : Reading) (f : List ℕ) → ruling_m (frame_of (window_of rd) f) ≡ ruling_of (window rd f) (length f)
frame-says rd f = frame-means (window_of rd) f ∙ ap (λ (a : Answer). ruling_of a (length f)) (window-means rd f)

-- and a step answers so, by the reading in its state
pub step-says : (w : Walk) (piece : List ℕ) → report_m (own_step w piece).answer ≡ step_report (window w.reading) w piece
step-says w piece =
    let h = put w.held w.seen piece in
    let n = length piece in
    step-means (window_of w.reading) w piece
    ∙ ap
    (λ (a : Answer). cond (sound_of w)
    (cond (countable w.offset w.seen n) (cond (ltb (w.seen + n) (frame_size h)) more (frame w.offset (frame_size h) (ruling_of a (frame_size h)))) (fault 33))
    (fault 30))
    (window-means w.reading (take (min (frame_size h) 52) h))
