-- What writing and then reading, and reading and then writing, come to, both by one reading; and both round trips.
-- Assumes nothing.
use Rattle.std.specs.Prelude.{ℕ, ◌≤◌, ◌≡◌, List, ◌++◌, length, take, drop, Result, Ok, Err}
use Rattle.format.specs.Layout.{be, part}
use Rattle.format.specs.Rows.{size_of}
use Rattle.format.specs.declared.Reading.{Reading}
use Rattle.format.specs.declared.Fault.{Fault}
use Rattle.records.specs.declared.Message.{Message}
use Rattle.reader.specs.Window.{window_of, Stricter, Window}
use Rattle.writer.specs.Writing.{Written, written_of, buffer_after}

-- what the writer said of the message that was read, or why there was none
abbrev pub Again : Type 0
Again = Result Written Fault

-- the buffer behind a write
abbrev pub written_in : Reading → Message → List ℕ → List ℕ
written_in rd m t = buffer_after (written_of rd m (length t)) m t

-- writing what reading answered, into a buffer t: a message is written; of any other answer that is said
abbrev pub again_of : Reading → Window → List ℕ → Again
again_of rd (Ok (m, n)) t = Ok (written_of rd m (length t))
again_of rd (Err e) t = Err e

abbrev pub again_in : Reading → Window → List ℕ → List ℕ
again_in rd (Ok (m, n)) t = written_in rd m t
again_in rd (Err e) t = t

-- the record m, where it was written into t, is read back by the answer r, which consumes as many bytes as were written; but a strict reading, which does
-- not restrict the writer, may refuse it with 4 or 5
abbrev pub ReadBack : Reading → Message → List ℕ → Window → Type 0
ReadBack rd m t r = (n : ℕ) → written_of rd m (length t) ≡ Ok n → Stricter rd (Ok (m, n)) r

-- the one exception does not hold of the bytes s, which were read as m: the length is the size
abbrev pub Regular : List ℕ → Message → Type 0
Regular s m = be (part s 0 2) ≡ size_of m.tag

-- the bytes s, where they were read as a message that has room, are written back as they were, behind the length field in any case, and from it on unless it is
-- the exception: r is the answer, u the buffer t behind it
abbrev pub WrittenBack : Reading → List ℕ → List ℕ → Again → List ℕ → Type 0
WrittenBack rd s t r u =
    (m : Message) (n : ℕ) → window_of rd s ≡ Ok (m, n) → n ≤ length t
    → (r ≡ Ok (Ok n)) × (drop 2 u ≡ drop 2 (take n s ++ drop n t)) × (Regular s m → u ≡ take n s ++ drop n t)
