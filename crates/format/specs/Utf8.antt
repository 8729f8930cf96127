-- Well-formed UTF-8, as RFC 3629, section 4, has it: a text is a run of whole sequences. The rows of its grammar stand in `grammar`, by the first
-- byte of a sequence; a sequence's second byte has a range of its own, and each byte after that is 80..BF. And where the first bad sequence begins.
-- Assumes nothing.
use Rattle.std.specs.Prelude.{ℕ, zero, suc, ◌+◌, List, [], ◌∷◌, Bool, true, false, cond, ltb, leb}

-- where a text stands between two bytes: between two sequences; n bytes more are due, the next of them from lo to hi; not UTF-8
pub data Utf : Type 0 where
  fresh : Utf
  tail : ℕ → ℕ → ℕ → Utf
  bad : Utf

-- the rows of the grammar: a first byte below this one, and in no row before, leads to that
pub record Lead : Type 0 where
  pub below : ℕ
  pub leads : Utf

abbrev pub row : ℕ → Utf → Lead
row b u = record { below = b; leads = u }

abbrev pub grammar : List Lead
grammar =
    -- 00..7F
    row 0x80 fresh
    ∷ row 0xc2 bad
    -- C2..DF
    ∷ row 0xe0 (tail 1 0x80 0xbf)
    -- E0; E1..EC; ED; EE..EF
    ∷ row 0xe1 (tail 2 0xa0 0xbf)
    ∷ row 0xed (tail 2 0x80 0xbf)
    ∷ row 0xee (tail 2 0x80 0x9f)
    ∷ row 0xf0 (tail 2 0x80 0xbf)
    -- F0; F1..F3; F4
    ∷ row 0xf1 (tail 3 0x90 0xbf)
    ∷ row 0xf4 (tail 3 0x80 0xbf)
    ∷ row 0xf5 (tail 3 0x80 0x8f)
    ∷ []

abbrev pub lead_in : List Lead → ℕ → Utf
lead_in [] b = bad
lead_in (r ∷ rs) b = cond (ltb b r.below) r.leads (lead_in rs b)

abbrev pub lead : ℕ → Utf
lead b = lead_in grammar b

-- with n bytes of a sequence still due
abbrev pub due : ℕ → Utf
due zero = fresh
due (suc n) = tail (suc n) 0x80 0xbf

unfoldable pub utf_step : Utf → ℕ → Utf
utf_step fresh b = lead b
utf_step (tail zero lo hi) b = bad
utf_step (tail (suc n) lo hi) b = cond (leb lo b) (cond (leb b hi) (due n) bad) bad
utf_step bad b = bad

unfoldable pub utf_run : Utf → List ℕ → Utf
utf_run u [] = u
utf_run u (b ∷ bs) = utf_run (utf_step u b) bs

abbrev pub is_fresh : Utf → Bool
is_fresh fresh = true
is_fresh (tail n lo hi) = false
is_fresh bad = false

unfoldable pub well_formed : List ℕ → Bool
well_formed bs = is_fresh (utf_run fresh bs)

-- where the sequence begins that the next byte belongs to, of a text that stands at u with i bytes passed: there, if it stands between two sequences;
-- else at `from`, where the one began that it stands in. A sequence that is not well formed is never left
abbrev pub begins_at : Utf → ℕ → ℕ → ℕ
begins_at u from i = cond (is_fresh u) i from

unfoldable pub bad_from : Utf → ℕ → ℕ → List ℕ → ℕ
bad_from u from i [] = begins_at u from i
bad_from u from i (b ∷ bs) = bad_from (utf_step u b) (begins_at u from i) (i + 1) bs

-- where the first sequence begins that is not well formed, taking a text's sequences one after another: one that the text's end cuts off is not, and where
-- all are, it is the text's end
unfoldable pub first_bad : List ℕ → ℕ
first_bad bs = bad_from fresh 0 0 bs
