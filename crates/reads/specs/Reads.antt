-- Lists of cases. A list is cases, one behind the other. A case is reads, closed by ff ff. A read is two bytes n, high byte first: 0 to 8192, and n bytes
-- behind it, which are brought, as many as the free part of the buffer takes, and the rest of them by the next read; or ff fe: the read fails.
-- Assumes nothing.
use Rattle.std.specs.Prelude.{ℕ, zero, suc, ◌+◌, ◌-◌, ◌*◌, min, Bool, true, false, cond, List, leb, ltb, eqb, length, get_or, take, drop, Option, None, Some}
use Rattle.reads.specs.declared.Place.{Place}
use Rattle.reads.specs.declared.Read.{Read}

-- the number in the first two bytes
abbrev pub head_of : List ℕ → ℕ
head_of t = get_or t 0 0 * 256 + get_or t 1 0

-- a list begins with a case's end
unfoldable pub closes : List ℕ → Bool
closes t = cond (ltb (length t) 2) false (eqb (head_of t) 0xffff)

-- it begins with a read: one that fails, or one whose bytes are there
unfoldable pub is_read : List ℕ → Bool
is_read t = cond (ltb (length t) 2) false (cond (ltb 8192 (head_of t)) (eqb (head_of t) 0xfffe) (leb (head_of t) (length t - 2)))

-- how many bytes it brings
unfoldable pub brings_of : List ℕ → ℕ
brings_of t = cond (ltb 8192 (head_of t)) 0 (head_of t)

-- what stands behind the reads that a list begins with, and so a place behind a case; the place itself where no whole case stands there. Each read
-- is two bytes or more, so the list's length is fuel enough.
unfoldable pub past_reads : ℕ → List ℕ → List ℕ
past_reads zero t = t
past_reads (suc k) t = cond (is_read t) (past_reads k (drop (2 + brings_of t) t)) t

unfoldable pub case_end_of : List ℕ → ℕ → ℕ
case_end_of list from =
    let rest = past_reads (length list) (drop from list) in
    cond (closes rest) (length list - length rest + 2) from

-- the place behind the bytes that come next, and how many these are: those that are left of a read, or those of the read that stands at the place
unfoldable pub due_of : List ℕ → Place → Place
due_of list p =
    let t = drop p.i list in
    cond (ltb 0 p.left) p (cond (is_read t) (record { i = p.i + 2 + brings_of t; left = brings_of t }) p)

-- the read that comes next fails
unfoldable pub fails_of : List ℕ → Place → Bool
fails_of list p =
    let t = drop p.i list in
    cond (ltb 0 p.left) false (cond (is_read t) (eqb (head_of t) 0xfffe) false)

-- so many bytes stand before a place: all that a place says, or none, where they are not there
unfoldable pub held_of : List ℕ → Place → ℕ
held_of list d = cond (ltb d.i d.left) 0 (cond (ltb (length list) d.i) 0 d.left)

-- the next read into a free part of so many bytes: what it comes to, and the bytes that it brings
unfoldable pub read_of : List ℕ → Place → ℕ → Read
read_of list p room =
    let d = due_of list p in
    let n = held_of list d in
    record { place = record { i = d.i; left = n - min n room }; came = cond (fails_of list p) None (Some (min n room)) }

-- how many bytes came: none of a read that failed
abbrev pub count_of : Option ℕ → ℕ
count_of None = 0
count_of (Some n) = n

unfoldable pub brought_of : List ℕ → Place → ℕ → List ℕ
brought_of list p room =
    let d = due_of list p in
    let n = held_of list d in
    take (min n room) (drop (d.i - n) list)

-- there is a read that is not brought in
unfoldable pub has_more_of : List ℕ → Place → Bool
has_more_of list p = cond (ltb 0 p.left) true (is_read (drop p.i list))
