-- What writing by a reading answers, in the scope's numbers, by its tests in their order.
-- Assumes nothing.
use Rattle.std.specs.Prelude.{ℕ, ◌+◌, ◌^◌, cond, ltb, leb}
use Rattle.format.specs.Rows.{size_of}
use Rattle.format.specs.declared.Reading.{Reading}
use Rattle.records.specs.declared.Message.{Message}
use Rattle.records.specs.Values.{values}
use Rattle.writer.specs.Meaning.{Outcome, done, refused}
use Rattle.writer.specs.Writing.{tag_fine, texts_of, intraday}

-- 40 tag and body kind disagree or the reading has no such tag, 41 the timestamp, 42 a text, 43 Intraday, 44 no room; else 2 + size bytes
abbrev pub outcome_of : Reading → Message → ℕ → Outcome
outcome_of rd m room =
    cond (tag_fine rd m)
    (cond (ltb m.timestamp (2 ^ 48))
    (cond (texts_of (values m.body))
    (cond (intraday (values m.body)) (refused 43) (cond (leb (2 + size_of m.tag) room) (done (2 + size_of m.tag)) (refused 44)))
    (refused 42))
    (refused 41))
    (refused 40)
