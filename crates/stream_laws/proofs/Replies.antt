-- The meaning of an answer of the stream determines it; and what each call answers, in the scope's numbers and values.
-- Assumes nothing.
use Prim.Native.Nat.{ℕ, ◌-◌}
use mathlib.Core.Path.{◌≡◌, refl, ap, ◌∙◌}
use mathlib.Core.Bool.{Bool, true, false, cond}
use mathlib.Core.List.{List}
use lib.Dec.{ltb, leb, eqb}
use lib.ListN.{length}
use Rattle.std.specs.Prelude.{Ok, Err}
use Rattle.format.specs.declared.Reading.{Reading}
use Rattle.format.specs.declared.Fault.TheVariants.{Short, Refused as Bad}
use Rattle.records.proofs.Back.{body_back}
use Rattle.reader.specs.Window.{window_m, window_of, Window}
use Rattle.laws.proofs.Unique.{one-to-one, pushed}
use Rattle.stream.specs.declared.Stream.{Stream}
use Rattle.stream.specs.declared.Step.{Step}
use Rattle.stream.specs.declared.Answer.{Answer}
use Rattle.stream.specs.declared.Answer.TheVariants.{Message, Wants, Ready, Nothing, Refused}
use Rattle.stream.specs.Meaning.{Reply, ready, nothing, reply_m, reply_from}
use Rattle.stream.specs.State.{refuses, marks, sized, in_bounds}
use Rattle.stream.specs.Next.{window_at, taken, next_by, next_of}
use Rattle.stream.specs.Room.{roomy, room_of}
use Rattle.stream.specs.Told.{fed, ended, told_of, failed_of}
use Rattle.stream_laws.specs.Replies.{fault, told_once, next_reply_by, next_reply, room_reply, told_reply, failed_reply}

pub reply-back : (a : Answer) → reply_from (reply_m a) ≡ a
reply-back (Message m) = simp body_back
reply-back Wants = refl
reply-back Ready = refl
reply-back Nothing = refl
reply-back (Refused n p) = refl

pub reply-unique : (a a' : Answer) → reply_m a ≡ reply_m a' → a ≡ a'
reply-unique = one-to-one reply_m reply_from reply-back

abbrev said : Step → Reply
said x = reply_m x.answer

-- the tests of a call, which are the same of its answer's meaning
sized-said : (s : Stream) (len : ℕ) (go : Step) → said (sized len (refuses s) go) ≡ sized len fault (said go)
sized-said s len go = pushed said (eqb len 8192) go (refuses s 31)

bounds-said : (s : Stream) (go : Step) → said (in_bounds s (refuses s) go) ≡ in_bounds s fault (said go)
bounds-said s go =
    pushed said (leb s.start s.end) _ (refuses s 30)
    ∙ ap (λ (x : Reply). cond (leb s.start s.end) x (fault 30)) (pushed said (leb s.end 8192) go (refuses s 30))

marks-said : (s : Stream) (n p : ℕ) → said (marks s n p) ≡ told_once s n p
marks-said s n p = pushed said s.error _ _

by_said : (s : Stream) (w : Window) → said (next_by s w) ≡ next_reply_by s (window_m w)
by_said s (Ok (m, n)) = pushed said (eqb s.messages 18446744073709551615) (refuses s 33) (taken s m n)
by_said s (Err Short) = refl
by_said s (Err (Bad r)) = marks-said s r.number r.place

-- next answers by what the window means, by a reading
pub next-means : (rd : Reading) (s : Stream) (b : List ℕ) → reply_m (next_of rd s b).answer ≡ next_reply s (length b) (window_m (window_of rd (window_at s b)))
unfolding next_of
next-means rd s b =
    let w = window_of rd (window_at s b) in
    sized-said s (length b) (in_bounds s (refuses s) (next_by s w))
    ∙ ap (sized (length b) fault) (bounds-said s (next_by s w) ∙ ap (in_bounds s fault) (by_said s w))

-- where both ways are ready
both-ready : (b : Bool) (x y : Step) → x.answer ≡ Ready → y.answer ≡ Ready → said (cond b x y) ≡ ready
both-ready true x y p q = ap reply_m p
both-ready false x y p q = ap reply_m q

pub room-means : (s : Stream) (len : ℕ) → reply_m (room_of s len).answer ≡ room_reply s len
unfolding room_of
room-means s len =
    let long = leb 52 (s.end - s.start) in
    let full = eqb s.read_calls 18446744073709551615 in
    let go : Step = cond (eqb s.end 8192) (roomy s 0 (s.end - s.start)) (roomy s s.start s.end) in
    sized-said s len _
    ∙ ap (sized len fault) (bounds-said s (cond long (refuses s 34) (cond full (refuses s 33) go))
    ∙ ap (in_bounds s fault) (pushed said long (refuses s 34) (cond full (refuses s 33) go)
    ∙ ap (cond long (fault 34)) (pushed said full (refuses s 33) go ∙ ap (cond full (fault 33)) (both-ready (eqb s.end 8192) _ _ refl refl))))

pub told-means : (s : Stream) (n : ℕ) → reply_m (told_of s n).answer ≡ told_reply s n
unfolding told_of
told-means s n =
    let fits = leb n (8192 - s.end) in
    let counts = leb n (18446744073709551615 - s.bytes_read) in
    let came : Step = cond (ltb 0 n) (fed s n) (ended s) in
    bounds-said s (cond fits (cond counts came (refuses s 33)) (refuses s 32))
    ∙ ap (in_bounds s fault) (pushed said fits (cond counts came (refuses s 33)) (refuses s 32)
    ∙ ap (λ (x : Reply). cond fits x (fault 32)) (pushed said counts came (refuses s 33)
    ∙ ap (λ (x : Reply). cond counts x (fault 33)) (pushed said (ltb 0 n) (fed s n) (ended s)
    ∙ ap (cond (ltb 0 n) ready) (pushed said (eqb s.start s.end) _ (marks s 10 0) ∙ ap (cond (eqb s.start s.end) nothing) (marks-said s 10 0)))))

pub failed-means : (s : Stream) → reply_m (failed_of s).answer ≡ failed_reply s
unfolding failed_of
failed-means s = bounds-said s (marks s 11 0) ∙ ap (in_bounds s fault) (marks-said s 11 0)
