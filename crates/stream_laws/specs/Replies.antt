-- What each call of the stream answers, in the scope's numbers and values, by the call's tests in their order.
-- Assumes nothing.
use Rattle.std.specs.Prelude.{ℕ, ◌-◌, cond, ltb, leb, eqb}
use Rattle.format.specs.Layout.{Answer, accepted, incomplete, refuses}
use Rattle.stream.specs.declared.Stream.{Stream}
use Rattle.stream.specs.Meaning.{Reply, message, wants, ready, nothing, refused}
use Rattle.stream.specs.State.{sized, in_bounds}
use Rattle.stream.specs.Room.{room_tests}

-- 30 to 34 carry no place
abbrev pub fault : ℕ → Reply
fault n = refused n 0

-- a refusal that sets the mark is told once
abbrev pub told_once : Stream → ℕ → ℕ → Reply
told_once s n p = cond s.error nothing (refused n p)

-- next, by what the window answers
abbrev pub next_reply_by : Stream → Answer → Reply
next_reply_by s (accepted v n) = cond (eqb s.messages 18446744073709551615) (fault 33) (message v)
next_reply_by s incomplete = wants
next_reply_by s (refuses n p) = told_once s n p

-- next, in a buffer of some length: 31, 30, then by the window's answer
abbrev pub next_reply : Stream → ℕ → Answer → Reply
next_reply s len a = sized len fault (in_bounds s fault (next_reply_by s a))

-- make room: 31, 30, 34, 33, or ready
abbrev pub room_reply : Stream → ℕ → Reply
room_reply s len = room_tests s len fault ready

-- told n bytes: 30, 32, 33; ready where some came; else nothing more behind a whole message, 10 inside one
abbrev pub told_reply : Stream → ℕ → Reply
told_reply s n =
    in_bounds s fault
    (cond (leb n (8192 - s.end))
    (cond (leb n (18446744073709551615 - s.bytes_read))
    (cond (ltb 0 n) ready (cond (eqb s.start s.end) nothing (told_once s 10 0)))
    (fault 33))
    (fault 32))

-- told a failed read: 30, then 11
abbrev pub failed_reply : Stream → Reply
failed_reply s = in_bounds s fault (told_once s 11 0)
