-- What a slice that plays the reader comes to: the window is tried, and where it wants bytes a piece is fetched and the window tried again.
-- Assumes nothing.
use Rattle.std.specs.Prelude.{ℕ, zero, suc, ◌+◌, ◌-◌, min, List, ◌++◌, cond, leb, eqb, length, take, drop}
use Rattle.format.specs.declared.Reading.{Reading}
use Rattle.stream.specs.declared.Stream.{Stream}
use Rattle.stream.specs.declared.Answer.{Answer}
use Rattle.stream.specs.declared.Answer.TheVariants.{Message, Wants, Ready, Nothing, Refused}
use Rattle.stream.specs.State.{sized, in_bounds}
use Rattle.stream.specs.Next.{next_of}
use Rattle.stream.specs.Told.{told_of}
use Rattle.stream.specs.Room.{room_of, room_buffer}
use Rattle.play.specs.declared.Played.{Played}

-- how many bytes of a piece: at most the room, the width and the unread bytes
abbrev pub portion_of : ℕ → ℕ → ℕ → ℕ
portion_of room unread width = min room (min width unread)

-- the front n bytes of s at the front of a part, the rest as it was
abbrev pub filled : List ℕ → ℕ → List ℕ → List ℕ
filled f n s = take n s ++ drop n f

-- what stands after a call: what it answers, and the buffer
pub record Out : Type 0 where
  pub played : Played
  pub buffer : List ℕ

-- what goes on from a state, a buffer and a position
abbrev pub Goes : Type 0
Goes = Stream → List ℕ → ℕ → Out

abbrev pub halt : Stream → Answer → List ℕ → ℕ → Out
halt s a b at = record { played = record { state = s; at = at; answer = a }; buffer = b }

-- goes on where the window wants bytes
abbrev pub on_wants : Goes → Stream → Answer → List ℕ → ℕ → Out
on_wants g s Wants b at = g s b at
on_wants g s (Message m) b at = halt s (Message m) b at
on_wants g s Ready b at = halt s Ready b at
on_wants g s Nothing b at = halt s Nothing b at
on_wants g s (Refused n p) b at = halt s (Refused n p) b at

-- goes on where there is room, or where bytes came
abbrev pub on_ready : Goes → Stream → Answer → List ℕ → ℕ → Out
on_ready g s Ready b at = g s b at
on_ready g s (Message m) b at = halt s (Message m) b at
on_ready g s Wants b at = halt s Wants b at
on_ready g s Nothing b at = halt s Nothing b at
on_ready g s (Refused n p) b at = halt s (Refused n p) b at

-- room is there: a piece goes into the free part, and is told
unfoldable pub feed_by : List ℕ → ℕ → Goes → Goes
feed_by src w g s b at =
    let k = portion_of (length b - s.end) (length src - at) w in
    on_ready g (told_of s k).state (told_of s k).answer (take s.end b ++ filled (drop s.end b) k (drop at src)) (at + k)

unfoldable pub fetch_by : List ℕ → ℕ → Goes → Goes
fetch_by src w g s b at = on_ready (feed_by src w g) (room_of s (length b)).state (room_of s (length b)).answer (room_buffer s b) at

unfoldable pub try_by : Reading → List ℕ → ℕ → Goes → Goes
try_by rd src w g s b at = on_wants (fetch_by src w g) (next_of rd s b).state (next_of rd s b).answer b at

-- tried again at most so many times; a try at 0 is never reached, since each fetch that goes on brings a byte
unfoldable pub tries : Reading → List ℕ → ℕ → ℕ → Goes
tries rd src w zero = λ s b at. halt s Wants b at
tries rd src w (suc f) = try_by rd src w (tries rd src w f)

unfoldable pub try_of : Reading → List ℕ → ℕ → Goes
try_of rd src w s b at = try_by rd src w (tries rd src w (length src - at)) s b at

unfoldable pub fetch_of : Reading → List ℕ → ℕ → Goes
fetch_of rd src w s b at = fetch_by src w (tries rd src w (length src - at)) s b at

-- the whole call: 31, 30 (also for a position past the slice), 35, then the tries
unfoldable pub play_of : Reading → List ℕ → ℕ → Goes
play_of rd src w s b at =
    let bad : ℕ → Out = λ n. halt s (Refused n 0) b at in
    sized (length b) bad (in_bounds s bad (cond (leb at (length src)) (cond (eqb w 0) (bad 35) (try_of rd src w s b at)) (bad 30)))
