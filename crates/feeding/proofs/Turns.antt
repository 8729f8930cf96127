-- A read of some bytes, by what the stream's calls ensure: room is made, the read fails, or it brings bytes.
-- Assumes nothing.
use Prim.Native.Nat.{ℕ, ◌+◌, ◌-◌, ◌≤◌}
use mathlib.Core.Path.{◌≡◌, refl, sym, ap, ◌∙◌}
use mathlib.Core.Bool.{true, false}
use mathlib.Core.List.{List, ◌++◌}
use mathlib.Core.Logic.{◌⊎◌, inl, inr, ⊎_elim}
use native.Mathlib.Omega.{arith}
use lib.ListN.{length, take, drop, length-take, length-drop}
use lib.Seq.{length-take-le, take_at}
use Rattle.standard.specs.declared.Brought.{Brought}
use Rattle.standard.specs.declared.ReadFailed.{ReadFailed}
use Rattle.standard.specs.Reads.{Reads, bytes_of, has_failed}
use Rattle.std.specs.declared.result.Result.{Result}
use Rattle.std.specs.declared.result.Result.TheVariants.{Ok, Err}
use Rattle.stream.specs.declared.Stream.{Stream}
use Rattle.stream.specs.declared.Step.{Step}
use Rattle.stream.specs.declared.Answer.{Answer}
use Rattle.stream.specs.declared.Answer.TheVariants.{Message, Wants, Ready, Nothing, Refused}
use Rattle.stream.specs.Room.{room_of, room_buffer}
use Rattle.stream.specs.Told.{told_of, failed_of}
use Rattle.stream_laws.specs.Ends.{stops}
use Rattle.stream_laws.proofs.Steps.{front, there, Room, no_room as no-room', made, room-is}
use Rattle.stream_laws.proofs.Calls.{stops-not, Roomy, room-ready, room-refused, told-heard, failed-stops}
use Rattle.feeding.specs.declared.Turn.{Turn}
use Rattle.feeding.specs.Turns.{is_ready, tell_of, Fed}

-- what the test of an answer tells
pub ready-is : (a : Answer) → is_ready a ≡ true → a ≡ Ready
ready-is (Message m) e = absurd (let z : ◌≡◌ {A = ℕ} 0 1 = cc in omega arith)
ready-is Wants e = absurd (let z : ◌≡◌ {A = ℕ} 0 1 = cc in omega arith)
ready-is Ready e = refl
ready-is Nothing e = absurd (let z : ◌≡◌ {A = ℕ} 0 1 = cc in omega arith)
ready-is (Refused n p) e = absurd (let z : ◌≡◌ {A = ℕ} 0 1 = cc in omega arith)

pub ready-not : (a : Answer) → is_ready a ≡ false → a ≡ Ready → ⊥
ready-not a e f = let g = ap is_ready f in let z : ◌≡◌ {A = ℕ} 0 1 = cc in omega arith

-- what a turn leaves of the counts: the messages stay; where bytes came one more call is counted, and any other answer ends the run
pub record Onward (s : Stream) (r : Step) : Type 0 where
  pub messages : r.state.messages ≡ s.messages
  pub calls : r.answer ≡ Ready → r.state.read_calls ≡ s.read_calls + 1
  pub ends : (r.answer ≡ Ready → ⊥) → stops r.answer ≡ true

-- room was made
pub roomy : (s : Stream) (len : ℕ) (r : Step) → r ≡ room_of s len → r.answer ≡ Ready → Roomy s len r.state
roomy s len r e a = rw e (room-ready s len (ap (λ (x : Step). x.answer) (sym e) ∙ a))

-- no room was made, and nothing is read
pub no_room : (s : Stream) (len : ℕ) (r : Step) → r ≡ room_of s len → (r.answer ≡ Ready → ⊥) → Onward s r
no_room s len r e f =
    let q = room-refused s len (λ a. f (ap (λ (x : Step). x.answer) e ∙ a)) in
    record {
      messages = ap (λ (x : Step). x.state.messages) e ∙ ap (λ (t : Stream). t.messages) q.0;
      calls = λ a. absurd (f a);
      ends = λ _. ap (λ (x : Step). stops x.answer) e ∙ q.1;
    }

-- the read failed
pub read-fails : (s : Stream) (len : ℕ) (r x : Step) → r ≡ room_of s len → r.answer ≡ Ready → x ≡ failed_of r.state → Onward s x
unfolding stops
read-fails s len r x e a f =
    let q = failed-stops r.state in
    let h : stops x.answer ≡ true = ap (λ (y : Step). stops y.answer) f ∙ q.1 in
    record {
      messages = ap (λ (y : Step). y.state.messages) f ∙ q.0.messages ∙ (roomy s len r e a).messages;
      calls = λ b. absurd (stops-not h refl b);
      ends = λ _. h;
    }

-- the read is told
pub read-tells : (s : Stream) (len : ℕ) (r : Step) (n : ℕ) (x : Step) → r ≡ room_of s len → r.answer ≡ Ready → x ≡ told_of r.state n → Onward s x
read-tells s len r n x e a f =
    let q = told-heard r.state n in
    let g = roomy s len r e a in
    record {
      messages = ap (λ (y : Step). y.state.messages) f ∙ q.messages ∙ g.messages;
      calls = λ _. ap (λ (y : Step). y.state.read_calls) f ∙ q.calls ∙ g.calls;
      ends = λ b. ap (λ (y : Step). stops y.answer) f ∙ q.ends (λ d. b (ap (λ (y : Step). y.answer) f ∙ d));
    }

-- ---- a whole turn

-- room was made, or it was not
ready-step : (s : Stream) (len : ℕ) (x : Step) → Room s len x → (x.answer ≡ Ready) ⊎ (x.answer ≡ Ready → ⊥)
ready-step s len _ (no-room' _) = inr (λ e. let z : ◌≡◌ {A = ℕ} 0 1 = cc in omega arith)
ready-step s len _ (made (front _ _)) = inl refl
ready-step s len _ (made (there _ _)) = inl refl

pub ready-or : (s : Stream) (len : ℕ) → ((room_of s len).answer ≡ Ready) ⊎ ((room_of s len).answer ≡ Ready → ⊥)
ready-or s len = ready-step s len (room_of s len) (room-is s len)

-- told by a test
pub tell-case : {A : Type 0} (s : Stream) (b : Brought) → (has_failed b ≡ true → tell_of s b ≡ failed_of s → A)
    → (has_failed b ≡ false → tell_of s b ≡ told_of s (bytes_of b) → A) → A
tell-case {A} s b f g = at b.came refl
  where
    at : (x : Result ℕ ReadFailed) → b.came ≡ x → A
    at (Ok n) e = g (rw e) (rw e)
    at (Err _) e = f (rw e) (rw e)

pub turned : (s : Stream) (v : Brought) (b : List ℕ) (x : Turn) (c : List ℕ) → Fed s v b x c → Onward s x.step
turned s v b x c R =
    ⊎_elim
    (λ a.
    let C = R.came a in
    tell-case (room_of s (length b)).state x.brought
    (λ _ e. read-fails s (length b) (room_of s (length b)) x.step refl a (C.step ∙ e))
    (λ _ e. read-tells s (length b) (room_of s (length b)) (bytes_of x.brought) x.step refl a (C.step ∙ e)))
    (λ f. no_room s (length b) x.step (R.no_room f).0 (λ a. f (ap (λ (y : Step). y.answer) (sym (R.no_room f).0) ∙ a)))
    (ready-or s (length b))

-- ---- what feed does

-- no room was made
pub no_read : (s : Stream) (v : Brought) (b : List ℕ) (r : Step) (x : Turn) (c : List ℕ) → r ≡ room_of s (length b) → (r.answer ≡ Ready → ⊥)
    → x.step ≡ r → x.brought ≡ v → length c ≡ length b → Fed s v b x c
no_read s v b r x c e f i k l = record {
  long = l;
  no_room = λ _. (i ∙ e, k);
  came = λ a. absurd (f (ap (λ (y : Step). y.answer) e ∙ a));
}

-- the read went into what stands behind e in the buffer m, and left c
pub one-read : (s : Stream) (v : Brought) (b : List ℕ) (r : Step) (m : List ℕ) (z : List ℕ) (x : Turn) → r ≡ room_of s (length b)
    → r.answer ≡ Ready → m ≡ room_buffer s b → r.state.end ≤ length m → length (take r.state.end m ++ z) ≡ length b → length m ≡ length b
    → Reads v (length (take (length m - r.state.end) (drop r.state.end m))) x.brought → x.step ≡ tell_of r.state x.brought
    → Fed s v b x (take r.state.end m ++ z)
one-read s v b r m z x e a h i l j f t =
    let y : (room_of s (length b)).state ≡ r.state = ap (λ (q : Step). q.state) (sym e) in
    let o : length (take (length m - r.state.end) (drop r.state.end m)) ≡ length m - r.state.end = simp (length-take, length-drop) (omega arith) in
    record {
      long = l;
      no_room = λ n. absurd (n (ap (λ (q : Step). q.answer) (sym e) ∙ a));
      came = λ _. record {
        reads = record {
          room = omega (arith, f.room, o, j, ap (λ (q : Stream). q.end) y);
          fits = omega (arith, f.fits, o, j, ap (λ (q : Stream). q.end) y);
          total = f.total;
        };
        front =
            rw (ap (λ (q : Stream). q.end) y)
            (take_at (take r.state.end m) z r.state.end (length-take-le r.state.end m i) ∙ ap (take r.state.end) h);
        step = t ∙ ap (λ (q : Stream). tell_of q x.brought) (sym y);
      };
    }
