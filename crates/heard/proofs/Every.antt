-- Every cutting has a run to its end: the calls never get stuck, and each message and each read leaves less to do.
-- Assumes nothing.
use Prim.Native.Nat.{ℕ, zero, suc, ◌+◌, ◌-◌, ◌*◌, ◌≤◌, ◌<◌}
use mathlib.Core.Path.{◌≡◌, refl, ap, ◌∙◌}
use mathlib.Core.Bool.{true}
use mathlib.Core.List.{List}
use native.Mathlib.Omega.{arith}
use lib.ListN.{length, drop, length-drop, replicate, length-replicate}
use lib.Seq.{paste, length-paste, take-paste}
use Rattle.format.specs.declared.Reading.{Reading}
use Rattle.records.specs.declared.Message.{Message as Record}
use Rattle.stream.specs.declared.Stream.{Stream}
use Rattle.stream.specs.declared.Step.{Step}
use Rattle.stream.specs.declared.Answer.{Answer}
use Rattle.stream.specs.declared.Answer.TheVariants.{Wants, Ready}
use Rattle.stream.specs.Next.{window_at, next_of}
use Rattle.stream.specs.Room.{room_buffer}
use Rattle.stream.proofs.Windows.{within}
use Rattle.stream_laws.specs.Ends.{stops}
use Rattle.stream_laws.proofs.Steps.{Next, no-next, message, wants, marked_next, next-is, front, there, Room, no_room, made, room-is, Told, no-told, came, nothing, marked-told, told_is}
use Rattle.stream_laws.proofs.Calls.{marks-stops, next-waits, room-ready}
use Rattle.heard.specs.Runs.{Cutting, Brings, Feeds, Read, roomed, ReadAt, told_at, Run, fresh, message as a-message, read, Stopped, by_next, by-room, by-told}
use Rattle.heard.proofs.Inputs.{some}
use Rattle.heard.proofs.Windows.{room-same}

-- bytes that a read brings can be put into the free part
reads : {may : Cutting} (e : ℕ) (b r : List ℕ) → e ≤ length b → Brings may (length b - e) r → Read may e b r
reads e b r h y = record {
  brings = y;
  buffer = paste b e r y.count;
  long = length-paste b e r y.count (omega (arith, y.fits)) y.left;
  put = take-paste b e r y.count h y.left;
}

-- a run that has ended
abbrev Some : Reading → Cutting → List ℕ → Type 0
Some rd may input = (ms : List Record) × (a : Answer) × Stopped rd may input ms a

-- what is left to do: the bytes of the window, and twice those that were not read
abbrev todo : Stream → List ℕ → ℕ
todo s r = s.end - s.start + 2 * length r

-- a read of n bytes, into a window from i to e
read-less : (i e n l w k : ℕ) → i ≤ e → 0 < n → n ≤ l → e - i + 2 * l ≡ w → w < suc k → e + n - i + 2 * (l - n) < k
read-less i e n l w k h a b c f = omega arith

module _ (rd : Reading) (may : Cutting) (input : List ℕ) (feeds : Feeds may) where
  abbrev Ended : ℕ → Type 0
  Ended k = (s : Stream) (b r : List ℕ) (ms : List Record) → Run rd may input s b r ms → todo s r < k → Some rd may input

  module _ (k : ℕ) (go : Ended k) (s : Stream) (b r : List ℕ) (ms : List Record) (p : Run rd may input s b r ms) (f : todo s r < suc k) where
    -- the answer of a step that ends the run
    ends : {x y : Step} → x ≡ y → stops y.answer ≡ true → stops x.answer ≡ true
    ends d h = ap (λ (x : Step). stops x.answer) d ∙ h

    told : (next_of rd s b).answer ≡ Wants → (roomed rd s b).answer ≡ Ready → (q : ReadAt rd may s b r) (x : Step) → told_at rd may s b r q ≡ x
        → Told (roomed rd s b).state q.brings.count x → Some rd may input
    unfolding stops
    told w e q _ d (no-told _) = (ms, _, by-told p w e q (ends d refl))
    told w e q _ d (nothing _ _ _) = (ms, _, by-told p w e q (ends d refl))
    told w e q _ d (marked-told _ _ _) = (ms, _, by-told p w e q (ends d (marks-stops (roomed rd s b).state 10 0)))
    told w e q _ d (came h a i j) =
        let n = q.brings.count in
        let y = room-ready (next_of rd s b).state (length b) e in
        let z = (next-waits rd s b w).kept in
        go (told_at rd may s b r q).state q.buffer (drop n r) ms (read p w e q (ap (λ (x : Step). x.answer) d))
        (rw (ap (λ (x : Step). todo x.state (drop n r)) d, length-drop)
        (read-less (roomed rd s b).state.start (roomed rd s b).state.end n (length r) (todo s r) k y.ordered a q.brings.left
        (ap (λ (w : ℕ). w + 2 * length r) y.window ∙ ap (λ (x : Stream). todo x r) z) f))

    goes : (next_of rd s b).answer ≡ Wants → (roomed rd s b).answer ≡ Ready → Some rd may input
    goes w e =
        let c = room_buffer (next_of rd s b).state b in
        let t = (roomed rd s b).state in
        let l = (room-same (next_of rd s b).state b e).long in
        let y = (room-ready (next_of rd s b).state (length b) e).free in
        let q = reads t.end c r (omega arith) (feeds (length c - t.end) r (omega arith)) in
        told w e q (told_at rd may s b r q) refl (told_is t q.brings.count)

    room : (next_of rd s b).answer ≡ Wants → (x : Step) → roomed rd s b ≡ x → Room (next_of rd s b).state (length b) x → Some rd may input
    unfolding stops
    room w _ d (no_room _) = (ms, _, by-room p w (ends d refl))
    room w _ d (made (front _ _)) = goes w (ap (λ (x : Step). x.answer) d)
    room w _ d (made (there _ _)) = goes w (ap (λ (x : Step). x.answer) d)

    next : (x : Step) → next_of rd s b ≡ x → Next rd s b x → Some rd may input
    unfolding stops
    next _ d (no-next _) = (ms, _, by_next p (ends d refl))
    next _ d (marked_next h l n i w) = (ms, _, by_next p (ends d (marks-stops s n i)))
    next _ d (wants h l w) = room (ap (λ (x : Step). x.answer) d) (roomed rd s b) refl (room-is (next_of rd s b).state (length b))
    next _ d (message h l m n w j) =
        go (next_of rd s b).state b r _ (a-message p m (ap (λ (x : Step). x.answer) d))
        (omega (
          arith,
          ap (λ (x : Step). x.state.start) d,
          ap (λ (x : Step). x.state.end) d,
          within rd s b m n w,
          (some rd (window_at s b) m n w).0,
        ))

  to_end : (k : ℕ) → Ended k
  to_end zero s b r ms p f = absurd (omega arith)
  to_end (suc k) s b r ms p f = next k (to_end k) s b r ms p f (next_of rd s b) refl (next-is rd s b)

  pub run-to-end : (ms : List Record) × (a : Answer) × Stopped rd may input ms a
  run-to-end =
      to_end (suc (2 * length input)) _ (replicate 8192 0) input _ (fresh (length-replicate {A = ℕ} 8192 0)) (omega arith)
