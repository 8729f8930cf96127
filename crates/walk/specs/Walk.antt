-- The frame rule, and one step of the walk over a piece of a recording.
-- Assumes nothing.
use Rattle.std.specs.Prelude.{ℕ, zero, suc, ◌+◌, ◌-◌, ◌*◌, ◌^◌, min, ◌≤◌, ◌<◌, ◌≡◌, List, [], ◌∷◌, ◌++◌, Bool, true, cond, ◌&&◌, length, get_or, take, drop, replicate, ltb, leb, eqb, Result, Ok, Err}
use Rattle.format.specs.declared.Reading.{Reading}
use Rattle.format.specs.declared.Refusal.{Refusal}
use Rattle.format.specs.declared.Fault.TheVariants.{Short, Refused}
use Rattle.format.specs.Meaning.{refusal}
use Rattle.records.specs.declared.Message.{Message}
use Rattle.reader.specs.Window.{window_of, Window}
use Rattle.walk.specs.declared.Walk.{Walk}
use Rattle.walk.specs.declared.Stepped.{Stepped}
use Rattle.walk.specs.declared.Answer.TheVariants.{Frame, WantsMore, Refused as Refuses}

-- ---- a frame

-- its size by its two length bytes: 2 + L. It is 2 or more whatever they are.
abbrev pub size_by : ℕ → ℕ → ℕ
size_by a b = a * 256 + b + 2

abbrev pub frame_size : List ℕ → ℕ
frame_size s = size_by (get_or s 0 0) (get_or s 1 0)

-- the answer on a frame: its message, or the refusal
abbrev pub Verdict : Type 0
Verdict = Result Message Refusal

-- a window's answer turned into that of a frame of this size: bytes left over are 21, incomplete is 20
abbrev pub verdict_of : Window → ℕ → Verdict
verdict_of (Ok (m, used)) size = cond (ltb used size) (Err (refusal 21 0)) (Ok m)
verdict_of (Err Short) size = Err (refusal 20 0)
verdict_of (Err (Refused r)) size = Err r

-- what a frame adds to the count of accepted ones
abbrev pub count_of : Verdict → ℕ
count_of (Ok m) = 1
count_of (Err r) = 0

-- ---- 30 and 33

unfoldable pub zeros : List ℕ → Bool
zeros [] = true
zeros (x ∷ s) = eqb x 0 && zeros s

abbrev pub zero_from : List ℕ → ℕ → Bool
zero_from s from = zeros (drop from s)

-- 30, turned round. (seen is 2 or more and not below 2 + L exactly where it is not below 2 + L.)
unfoldable pub sound_of : Walk → Bool
sound_of w =
    ltb w.seen (frame_size w.held) && leb (2 * w.frames) w.offset && leb w.accepted w.frames
    && zero_from w.held w.seen

-- 33, turned round
abbrev pub countable : ℕ → ℕ → ℕ → Bool
countable offset seen n = ltb (offset + seen + n) (2 ^ 64)

abbrev pub ready_of : Walk → ℕ → Bool
ready_of w n = sound_of w && countable w.offset w.seen n

-- what they leave of a state, for a piece of n bytes
pub record Ready (w : Walk) (n : ℕ) : Type 0 where
  pub started : w.seen < frame_size w.held
  pub room : w.offset + w.seen + n < 2 ^ 64
  pub two : 2 * w.frames ≤ w.offset
  pub counted : w.accepted ≤ w.frames

-- ---- a step

abbrev pub fresh_of : Reading → Walk
fresh_of rd = record { offset = 0; seen = 0; held = replicate 52 0; frames = 0; accepted = 0; reading = rd }

-- held, with the piece written over it from place `seen` on, as far as held reaches
unfoldable pub put : List ℕ → ℕ → List ℕ → List ℕ
put [] seen piece = []
put (h ∷ held) zero [] = h ∷ held
put (h ∷ held) zero (b ∷ piece) = b ∷ put held zero piece
put (h ∷ held) (suc seen) piece = h ∷ put held seen piece

-- the state past a frame of this size; the reading stays, as in every state that a step leaves
abbrev pub past_of : Walk → ℕ → Verdict → Walk
past_of w size v =
    record { offset = w.offset + size; seen = 0; held = replicate 52 0; frames = w.frames + 1; accepted = w.accepted + count_of v; reading = w.reading }

unfoldable pub done_of : Walk → ℕ → ℕ → Verdict → Stepped
done_of w used size v = record { state = past_of w size v; used = used; answer = Frame w.offset size v }

-- the whole piece taken into the current frame
abbrev pub more_of : Walk → List ℕ → ℕ → Stepped
more_of w held n =
    record {
      state = record { offset = w.offset; seen = w.seen + n; held = held; frames = w.frames; accepted = w.accepted; reading = w.reading };
      used = n;
      answer = WantsMore;
    }

abbrev pub refused_of : Walk → ℕ → Stepped
refused_of w number = record { state = w; used = 0; answer = Refuses number }

-- ---- what goes by the window's answer, over any such answer `win`

module _ (win : List ℕ → Window) where
  -- the frame rule: the window's answer for the frame's bytes f alone, none of them left over
  unfoldable pub frame_of : List ℕ → Verdict
  frame_of f = verdict_of (win f) (length f)

  -- a frame's answer from its size and its first 52 bytes, or all if it is shorter
  unfoldable pub judge_of : List ℕ → ℕ → Verdict
  judge_of s size = verdict_of (win (take (min size 52) s)) size

  -- h is held with the piece put in, n the piece's length
  unfoldable pub moved_by : Walk → List ℕ → ℕ → Stepped
  moved_by w h n =
      cond (ltb (w.seen + n) (frame_size h)) (more_of w h n) (done_of w (frame_size h - w.seen) (frame_size h) (judge_of h (frame_size h)))

  unfoldable pub moved_of : Walk → List ℕ → Stepped
  moved_of w piece = moved_by w (put w.held w.seen piece) (length piece)

  unfoldable pub step_of : Walk → List ℕ → Stepped
  step_of w piece =
      cond (sound_of w) (cond (countable w.offset w.seen (length piece)) (moved_of w piece) (refused_of w 33)) (refused_of w 30)

-- the step that the code takes: by the reader's answer, with the reading that the state has
abbrev pub own_step : Walk → List ℕ → Stepped
own_step w piece = step_of (window_of w.reading) w piece

-- the two laws of the window's answer that the walk rests on: appended bytes change nothing of an answer; 52 bytes have one
pub record Lawful (win : List ℕ → Window) : Type 0 where
  pub appended : (s t : List ℕ) → (win s ≡ Err Short → ⊥) → win (s ++ t) ≡ win s
  pub full : (s : List ℕ) → 52 ≤ length s → win s ≡ Err Short → ⊥
