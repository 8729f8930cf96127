-- What holds at every point of a run: the messages answered and what the window and the rest of the input hold are what the input holds; the mark is
-- clear; and each count is at most the bytes read.
-- Assumes nothing.
use Prim.Native.Nat.{ℕ, ◌+◌, ◌-◌, ◌≤◌, ◌<◌}
use mathlib.Core.Path.{◌≡◌, refl, sym, ap, ◌∙◌}
use mathlib.Core.Bool.{false}
use mathlib.Core.List.{List, [], ◌∷◌, ◌++◌, append_assoc}
use native.Mathlib.Omega.{arith}
use lib.ListN.{length, take, drop, length-drop, take-append-drop}
use lib.Seq.{drop-append-le}
use Rattle.std.specs.Prelude.{Ok, Err}
use Rattle.format.specs.declared.Reading.{Reading}
use Rattle.format.specs.declared.Fault.TheVariants.{Short}
use Rattle.records.specs.declared.Message.{Message as Record}
use Rattle.reader.specs.Window.{window_of}
use Rattle.laws.proofs.Answers.{keeps}
use Rattle.stream.specs.declared.Stream.{Stream}
use Rattle.stream.specs.declared.Answer.TheVariants.{Message, Wants, Ready}
use Rattle.stream.specs.State.{fresh_state}
use Rattle.stream.specs.Next.{window_at, next_of}
use Rattle.stream.specs.Room.{room_of, room_buffer}
use Rattle.stream.specs.Told.{told_of}
use Rattle.stream.proofs.Windows.{within}
use Rattle.stream_laws.specs.Runs.{Sound}
use Rattle.stream_laws.proofs.Calls.{next-takes, next-waits, room-ready, told-came}
use Rattle.heard.specs.Heard.{Heard, before, heard_of}
use Rattle.heard.specs.Runs.{Cutting, Read, roomed, Run, fresh, message, read}
use Rattle.heard.proofs.Inputs.{some, heard-message}
use Rattle.heard.proofs.Windows.{window-taken, window-put, room-same}

-- more: the read calls that brought nothing yet
pub record Holds (rd : Reading) (input : List ℕ) (more : ℕ) (s : Stream) (b r : List ℕ) (ms : List Record) : Type 0 where
  pub sound : Sound s
  pub whole : length b ≡ 8192
  pub clear : s.error ≡ false
  pub heard : heard_of rd input ≡ before ms (heard_of rd (window_at s b ++ r))
  pub bytes : s.bytes_read + length r ≡ length input
  pub calls : s.read_calls ≤ s.bytes_read + more
  pub counted : s.messages + (s.end - s.start) ≤ s.bytes_read

holds-fresh : (rd : Reading) (input b : List ℕ) → length b ≡ 8192 → Holds rd input 0 fresh_state b input []
holds-fresh rd input b l = record {
  sound = record { ordered = omega arith; inside = omega arith };
  whole = l;
  clear = refl;
  heard = refl;
  bytes = omega arith;
  calls = omega arith;
  counted = omega arith;
}

-- ---- next answers a message

-- the messages so far, one more, and what is heard behind it
one_more : (ms : List Record) (m : Record) (h : Heard) → before ms (before (m ∷ []) h) ≡ before (ms ++ (m ∷ [])) h
one_more ms m h = ap (λ (x : List Record). record { messages = x; stop = h.stop }) (sym (append_assoc ms (m ∷ []) h.messages))

-- what is heard of a window that begins with a message, and of the bytes behind it
heard-on : (rd : Reading) (w r : List ℕ) (m : Record) (n : ℕ) → window_of rd w ≡ Ok (m, n) → heard_of rd (w ++ r) ≡ before (m ∷ []) (heard_of rd (drop n w ++ r))
heard-on rd w r m n e =
    heard-message rd (w ++ r) m n (keeps rd w r (λ (f : window_of rd w ≡ Err Short). let z : ◌≡◌ {A = ℕ} 0 1 = cc in omega arith) ∙ e)
    ∙ ap (λ (x : List ℕ). before (m ∷ []) (heard_of rd x)) (drop-append-le n w r (some rd w m n e).1)

taken-holds : (rd : Reading) (input : List ℕ) (s : Stream) (b r : List ℕ) (ms : List Record) (m : Record) → (next_of rd s b).answer ≡ Message m
    → Holds rd input 0 s b r ms → Holds rd input 0 (next_of rd s b).state b r (ms ++ (m ∷ []))
taken-holds rd input s b r ms m e q =
    let t = next-takes rd s b m e in
    let n = t.used in
    let h = t.sound in
    let u : n ≤ s.end - s.start = within rd s b m n t.accepts in
    let o : 0 < n = (some rd (window_at s b) m n t.accepts).0 in
    rw t.step (record {
      sound = record { ordered = omega (arith, h.ordered); inside = h.inside };
      whole = t.whole;
      clear = refl;
      heard =
          q.heard
          ∙ ap (before ms) (heard-on rd (window_at s b) r m n t.accepts)
          ∙ ap (λ (x : List ℕ). before ms (before (m ∷ []) (heard_of rd (x ++ r))))
          (sym (window-taken b s.start s.end n u (omega (arith, h.inside, t.whole))))
          ∙ one_more ms m _;
      bytes = q.bytes;
      calls = q.calls;
      counted = omega (arith, q.counted);
    })

-- ---- room is made

room-holds : (rd : Reading) (input : List ℕ) (s : Stream) (b r : List ℕ) (ms : List Record) → (room_of s (length b)).answer ≡ Ready
    → Holds rd input 0 s b r ms → Holds rd input 1 (room_of s (length b)).state (room_buffer s b) r ms
room-holds rd input s b r ms e q =
    let y = room-ready s (length b) e in
    let z = room-same s b e in
    record {
      sound = record { ordered = y.ordered; inside = omega (arith, y.free) };
      whole = z.long;
      clear = z.error ∙ q.clear;
      heard = q.heard ∙ ap (λ (x : List ℕ). before ms (heard_of rd (x ++ r))) (sym z.window);
      bytes = omega (arith, y.bytes, q.bytes);
      calls = omega (arith, y.bytes, y.calls, q.calls);
      counted = omega (arith, y.bytes, y.messages, y.window, q.counted);
    }

-- ---- bytes came

fed-holds : (rd : Reading) (input : List ℕ) (s : Stream) (b r : List ℕ) (ms : List Record) {may : Cutting} (q : Read may s.end b r)
    → (told_of s q.brings.count).answer ≡ Ready
    → Holds rd input 1 s b r ms → Holds rd input 0 (told_of s q.brings.count).state q.buffer (drop q.brings.count r) ms
fed-holds rd input s b r ms q e p =
    let n = q.brings.count in
    let w = window_at s b in
    let i = s.start in
    let t = told-came s n e in
    let h = t.sound in
    rw t.step (record {
      sound = record { ordered = omega (arith, h.ordered); inside = omega (arith, h.inside, t.fits) };
      whole = q.long ∙ p.whole;
      clear = p.clear;
      heard =
          p.heard
          ∙ ap (λ (x : List ℕ). before ms (heard_of rd (w ++ x))) (sym (take-append-drop n r))
          ∙ ap (λ (x : List ℕ). before ms (heard_of rd x)) (sym (append_assoc w (take n r) (drop n r)))
          ∙ ap (λ (x : List ℕ). before ms (heard_of rd (x ++ drop n r)))
          (sym (window-put b q.buffer (take n r) i s.end n h.ordered (omega (arith, h.inside, p.whole)) q.long q.put));
      bytes = omega (arith, p.bytes, q.brings.left, length-drop n r);
      calls = omega (arith, p.calls, t.some);
      counted = omega (arith, p.counted, h.ordered);
    })

-- ---- so at every point

-- where next wants bytes and room was made
pub roomed-holds : (rd : Reading) (input : List ℕ) (s : Stream) (b r : List ℕ) (ms : List Record) → (next_of rd s b).answer ≡ Wants → (roomed rd s b).answer ≡ Ready
    → Holds rd input 0 s b r ms → Holds rd input 1 (roomed rd s b).state (room_buffer (next_of rd s b).state b) r ms
roomed-holds rd input s b r ms w e q =
    room-holds rd input (next_of rd s b).state b r ms e (rw (next-waits rd s b w).kept q)

pub holds : {rd : Reading} {may : Cutting} {input : List ℕ} {s : Stream} {b r : List ℕ} {ms : List Record} → Run rd may input s b r ms → Holds rd input 0 s b r ms
holds {rd} {input = input} (fresh {b = b} l) = holds-fresh rd input b l
holds {rd} {input = input} (message {s = s} {b = b} {r = r} {ms = ms} p m e) = taken-holds rd input s b r ms m e (holds p)
holds {rd} {may} {input = input} (read {s = s} {b = b} {r = r} {ms = ms} p w e q t) =
    fed-holds rd input (roomed rd s b).state (room_buffer (next_of rd s b).state b) r ms q t (roomed-holds rd input s b r ms w e (holds p))
