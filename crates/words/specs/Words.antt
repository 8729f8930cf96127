-- The words of a program, and the byte of an ending.
-- Assumes nothing.
use Rattle.std.specs.Prelude.{ℕ, Bool, true, false, ◌&&◌, not, if◌then◌else◌, List, codes, bytes_eq, eqb, Option, Some, None}
use Rattle.format.specs.declared.Edition.TheVariants as Edition·
use Rattle.format.specs.declared.Reading.{Reading}
use Rattle.words.specs.declared.Word.{Word}
use Rattle.words.specs.declared.Word.TheVariants.{Quiet, Later, Strict, Status}
use Rattle.words.specs.declared.Words.{Words}
use Rattle.words.specs.declared.Ending.{Ending}
use Rattle.words.specs.declared.Ending.TheVariants.{Clean, Found, Misused, Failed}

abbrev pub word_of : List ℕ → Option Word
word_of s =
    (if bytes_eq s (codes "quiet") then Some Quiet else
    (if bytes_eq s (codes "later") then Some Later else
    (if bytes_eq s (codes "strict") then Some Strict else
    (if bytes_eq s (codes "status") then Some Status else None))))

-- a word that the program has not
abbrev pub unknown_of : Words → Words
unknown_of w = record w { known = false }

-- one word more, for a program that has `quiet` or not: no word is known a second time
abbrev pub with_of : Words → Option Word → Bool → Words
with_of w (Some Quiet) has = (if has then record w { quiet = true; known = w.known && not w.quiet } else unknown_of w)
with_of w (Some Later) has = record w { later = true; known = w.known && not w.later }
with_of w (Some Strict) has = record w { strict = true; known = w.known && not w.strict }
with_of w (Some Status) has = record w { status = true; known = w.known && not w.status }
with_of w None has = unknown_of w

-- how the words ask to read
abbrev pub reading_of : Words → Reading
reading_of w = record { edition = (if w.later then Edition·.Later else Edition·.Old); strict = w.strict }

-- `0`, `1`, `2` and `3`
abbrev pub byte_of : Ending → ℕ
byte_of Clean = 48
byte_of Found = 49
byte_of Misused = 50
byte_of Failed = 51

-- the number that a run stopped with, where 0 is a clean end
abbrev pub stop_by : ℕ → Option ℕ
stop_by n = (if eqb n 0 then None else Some n)

-- a run of the stream that stopped with this number: none is a clean end, 11 a read that failed
abbrev pub ending_by : Option ℕ → Bool → Ending
ending_by number false = Failed
ending_by None true = Clean
ending_by (Some n) true = (if eqb n 11 then Failed else Found)
