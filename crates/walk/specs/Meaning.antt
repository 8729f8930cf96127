-- What the answers of the walk mean, in the scope's numbers and values; and the answer that a meaning has.
-- Assumes nothing.
use Rattle.std.specs.Prelude.{ℕ, List, Ok, Err}
use Rattle.format.specs.Meaning.{refusal}
use Rattle.reader.specs.Window.{message_values, message_from}
use Rattle.walk.specs.declared.Answer.{Answer}
use Rattle.walk.specs.declared.Answer.TheVariants.{Frame, WantsMore, Refused}
use Rattle.walk.specs.Walk.{Verdict}

-- a frame's answer: accepted, with the message's values; refused, with number and place
pub data Ruling : Type 0 where
  accepted : List ℕ → Ruling
  refused : ℕ → ℕ → Ruling

abbrev pub ruling_m : Verdict → Ruling
ruling_m (Ok m) = accepted (message_values m)
ruling_m (Err r) = refused r.number r.place

abbrev pub ruling_from : Ruling → Verdict
ruling_from (accepted v) = Ok (message_from v)
ruling_from (refused n p) = Err (refusal n p)

-- a step's answer: a frame, with its offset, its size and its answer; the piece is used up and more is wanted; 30 or 33
pub data Report : Type 0 where
  frame : ℕ → ℕ → Ruling → Report
  more : Report
  fault : ℕ → Report

abbrev pub report_m : Answer → Report
report_m (Frame offset size what) = frame offset size (ruling_m what)
report_m WantsMore = more
report_m (Refused n) = fault n

abbrev pub report_from : Report → Answer
report_from (frame offset size what) = Frame offset size (ruling_from what)
report_from more = WantsMore
report_from (fault n) = Refused n
