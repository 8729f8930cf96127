-- What `tally` prints, as bytes: a line for each tag value with a count above zero, in byte order, then the messages, then where the stream stopped.
-- Assumes nothing.
use Rattle.std.specs.Prelude.{ℕ, zero, suc, cond, List, [], ◌∷◌, ◌++◌, eqb, ltb, length, get_or}
use Rattle.text.specs.Decimal.{behind}
use Rattle.stream.specs.declared.Answer.{Answer}
use Rattle.stream.specs.Meaning.{number_of, place_of}

-- the line of a tag value, if it has one
unfoldable pub line_of : ℕ → ℕ → List ℕ
line_of tag n = cond (ltb 0 n) ((tag ∷ 32 ∷ []) ++ behind n 10) []

-- the lines of the tag values below k
unfoldable pub lines_of : List ℕ → ℕ → List ℕ
lines_of c zero = []
lines_of c (suc k) = lines_of c k ++ line_of k (get_or c k 0)

-- `messages ` and `stopped `
abbrev pub messages_text : List ℕ
messages_text = 109 ∷ 101 ∷ 115 ∷ 115 ∷ 97 ∷ 103 ∷ 101 ∷ 115 ∷ 32 ∷ []

abbrev pub stopped_text : List ℕ
stopped_text = 115 ∷ 116 ∷ 111 ∷ 112 ∷ 112 ∷ 101 ∷ 100 ∷ 32 ∷ []

unfoldable pub messages_of : ℕ → List ℕ
messages_of n = messages_text ++ behind n 10

unfoldable pub stopped_of : ℕ → ℕ → List ℕ
stopped_of number place = stopped_text ++ (behind number 32 ++ behind place 10)

-- the whole output: the stream stopped at 0 0, if its end was clean
unfoldable pub tally_of : List ℕ → ℕ → Answer → List ℕ
tally_of c messages a = lines_of c 256 ++ (messages_of messages ++ stopped_of (number_of a) (place_of a))

-- what is put for any counters: the whole output of 256, and nothing of any other
unfoldable pub printed_of : List ℕ → ℕ → Answer → List ℕ
printed_of c messages a = cond (eqb (length c) 256) (tally_of c messages a) []
