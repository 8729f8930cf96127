-- What writing a message into a buffer answers, by a reading, and the buffer afterwards. The bytes go by the rows that the reader goes by.
-- Assumes nothing.
use Rattle.std.specs.Prelude.{ℕ, Option, Some, None, ◌+◌, ◌^◌, List, [], ◌∷◌, ◌++◌, Bool, true, cond, ◌&&◌, ltb, leb, eqb, get_or, drop, Result, Ok, Err}
use Rattle.format.specs.Ascii.{'A', 'F', 'I'}
use Rattle.format.specs.Utf8.{well_formed}
use Rattle.format.specs.Rows.{size_of, size_by, header}
use Rattle.format.specs.declared.Reading.{Reading}
use Rattle.pen.specs.Encode.{digits, write, layout, texts_fine, Sized}
use Rattle.records.specs.declared.Body.{Body}
use Rattle.records.specs.declared.Message.{Message}
use Rattle.records.specs.Values.{values}
use Rattle.writer.specs.declared.Checked.{Checked}
use Rattle.writer.specs.declared.WriteError.{WriteError}
use Rattle.writer.specs.declared.WriteError.TheVariants.{Kind, Time, Text, Intraday, Room}

-- so many bytes were written, or why none
abbrev pub Written : Type 0
Written = Result ℕ WriteError

-- the number of a refusal
abbrev pub number_of : WriteError → ℕ
number_of Kind = 40
number_of Time = 41
number_of Text = 42
number_of Intraday = 43
number_of Room = 44

-- the tag that a body belongs to, and its fields' values
abbrev pub tag_of : Body → ℕ
tag_of b = get_or (values b) 0 0

abbrev pub fields_of : Body → List ℕ
fields_of b = drop 1 (values b)

-- whether all its texts are UTF-8; whether it is an imbalance record with the cross Intraday, a code that only Q has
unfoldable pub texts_of : List ℕ → Bool
texts_of vs = texts_fine (layout (get_or vs 0 0)) (drop 1 vs)

unfoldable pub intraday : List ℕ → Bool
intraday vs = eqb (get_or vs 0 0) 'I' && eqb (get_or vs 8 0) 'I'

-- what is looked at before a body is written
abbrev pub checked_of : List ℕ → Checked
checked_of vs = record { tag = get_or vs 0 0; texts = texts_of vs; intraday = intraday vs }

-- the same of the part of an add order that only F has
abbrev pub mpid_tag : Option ℕ → ℕ
mpid_tag None = 'A'
mpid_tag (Some v) = 'F'

abbrev pub mpid_fine : Option ℕ → Bool
mpid_fine None = true
mpid_fine (Some v) = well_formed (digits 4 v)

-- a message's values in the order of its bytes; the length is the size
abbrev pub head_of : Message → List ℕ
head_of m = size_of m.tag ∷ m.tag ∷ m.stock_locate ∷ m.tracking_number ∷ m.timestamp ∷ []

unfoldable pub encode : Message → List ℕ
encode m = write header (head_of m) ++ write (layout m.tag) (fields_of m.body)

-- whether the tag is the body's, and the reading has it
abbrev pub tag_fine : Reading → Message → Bool
tag_fine rd m = eqb m.tag (tag_of m.body) && ltb 0 (size_by rd m.tag)

-- what writing into a buffer of some length answers, by a reading. A tag that has no row at all is no body's, so it is 40 too
unfoldable pub written_of : Reading → Message → ℕ → Written
written_of rd m room =
    cond (tag_fine rd m)
    (cond (ltb m.timestamp (2 ^ 48))
    (cond (texts_of (values m.body))
    (cond (intraday (values m.body)) (Err Intraday)
    (cond (leb (2 + size_of m.tag) room) (Ok (2 + size_of m.tag))
    (Err Room)))
    (Err Text))
    (Err Time))
    (Err Kind)

-- the buffer after an answer: the message in front, and later bytes stay; as it was, after a refusal
unfoldable pub buffer_after : Written → Message → List ℕ → List ℕ
buffer_after (Ok n) m s = encode m ++ drop n s
buffer_after (Err e) m s = s

-- what the types say of a message that is written: each value fits its field
unfoldable pub FieldsFit : Written → Message → Type 0
FieldsFit (Ok n) m = Sized header (head_of m) × Sized (layout (tag_of m.body)) (fields_of m.body)
FieldsFit (Err e) m = Unit {0}
