-- What the functions behind `walk_block` owe: the table of digits, and the lines of frames that end in a part of a recording.
-- Assumes nothing.
use Rattle.std.specs.Prelude.{ℕ, zero, suc, ◌+◌, ◌-◌, ◌^◌, ◌≤◌, ◌<◌, ◌≡◌, Bool, true, false, List, [], ◌∷◌, ◌++◌, ◌⊎◌, length, drop, Result, Ok, Err}
use Rattle.format.specs.declared.Refusal.{Refusal}
use Rattle.reader.specs.Window.{Window}
use Rattle.walk.specs.Walk.{frame_size, judge_of, Verdict}
use Rattle.walk.specs.Frames.{Entry, accepts}
use Rattle.text.specs.Decimal.{two_of, Wrote}
use Rattle.lines.specs.declared.Halt.{Halt}
use Rattle.lines.specs.declared.Halt.TheVariants.{Cut, Full, Bad as Refused}
use Rattle.lines.specs.declared.Halted.{Halted}
use Rattle.lines.specs.declared.Gone.{Gone}
use Rattle.lines.specs.Lines.{lines_of}
use Rattle.lines.specs.Blocks.{longest}

-- the two digits of the k numbers from n on, and of the numbers below 100
unfoldable pub pairs_from : ℕ → ℕ → List ℕ
pairs_from zero n = []
pairs_from (suc k) n = two_of n ++ pairs_from k (suc n)

unfoldable pub pairs : List ℕ
pairs = pairs_from 100 0

-- what a line tells of a frame's answer
abbrev pub look_of : Verdict → Result ℕ Refusal
look_of (Ok m) = Ok m.tag
look_of (Err r) = Err r

-- from place i on, no frame ends within the first `have` bytes of s
abbrev pub Cutting : List ℕ → ℕ → ℕ → Type 0
Cutting s have i = (have ≤ i) ⊎ (length s ≤ i + 1) ⊎ (have - i < frame_size (drop i s))

-- what the loops over s are asked with: the offsets fit 64 bits, and `to` is within a buffer of `long` bytes, which has room for a line
pub record Asked (s : List ℕ) (have from offset long to : ℕ) : Type 0 where
  pub begun : from ≤ have
  pub fits : offset + (have - from) < 2 ^ 64
  pub inside : to ≤ long
  pub wide : longest ≤ long

-- a frame begins at place j and ends within the first `have` bytes
pub record Ends (s : List ℕ) (have j : ℕ) : Type 0 where
  pub before : j < have
  pub sized : j + 2 ≤ length s
  pub whole : frame_size (drop j s) ≤ have - j

module _ (win : List ℕ → Window) where
  -- the frame at place j, where the byte at place `from` has this offset
  abbrev pub entry_at : List ℕ → ℕ → ℕ → ℕ → Entry
  entry_at s from offset j =
      record { at = offset + (j - from); size = frame_size (drop j s); what = judge_of win (drop j s) (frame_size (drop j s)) }

  -- why no line of an accepted frame follows those up to place j, which end at r in a buffer of `long` bytes
  pub data Halting (s : List ℕ) (have long j r : ℕ) : Halt → Type 0 where
    cut : Cutting s have j → (j < have → r + longest ≤ long) → Halting s have long j r Cut
    full : j < have → long < r + longest → Halting s have long j r Full
    refused : (r' : Refusal) → Ends s have j → r + longest ≤ long → judge_of win (drop j s) (frame_size (drop j s)) ≡ Err r'
        → Halting s have long j r (Refused r' (frame_size (drop j s)))

module _ (quiet : Bool) (win : List ℕ → Window) where
  -- the frames between two places, each with room for its line in a buffer of `long` bytes, the first line at `to`
  pub data Frames (s : List ℕ) (have from offset long to : ℕ) : List Entry → ℕ → Type 0 where
    none : Frames s have from offset long to [] from
    more : {es : List Entry} {j : ℕ} → Frames s have from offset long to es j → Ends s have j → to + length (lines_of quiet es) + longest ≤ long
        → Frames s have from offset long to (es ++ (entry_at win s from offset j ∷ [])) (j + frame_size (drop j s))

  -- the lines of accepted frames
  pub record Halts (s : List ℕ) (have from offset : ℕ) (out : List ℕ) (to : ℕ) (after : List ℕ) (r : Halted) : Type 0 where
    pub entries : List Entry
    pub frames : Frames s have from offset (length out) to entries r.at
    pub many : length entries ≡ r.count
    pub all : accepts entries ≡ r.count
    pub text : Wrote (lines_of quiet entries) out to after r.to
    pub why : Halting win s have (length out) r.at r.to r.why

  -- the lines of all frames
  pub record Goes (s : List ℕ) (have from offset frames accepted : ℕ) (out : List ℕ) (to : ℕ) (after : List ℕ) (r : Gone) : Type 0 where
    pub entries : List Entry
    pub run : Frames s have from offset (length out) to entries r.at
    pub text : Wrote (lines_of quiet entries) out to after r.to
    pub past : r.counts.offset ≡ offset + (r.at - from)
    pub told : r.counts.frames ≡ frames + length entries
    pub good : r.counts.accepted ≡ accepted + accepts entries
    pub cut : r.full ≡ false → Cutting s have r.at × (r.at < have → r.to + longest ≤ length out)
    pub full : r.full ≡ true → (r.at < have) × (length out < r.to + longest)
