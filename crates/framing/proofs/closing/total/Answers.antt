-- `framing::closing::total` meets its contract.
use Prim.Native.Nat.{◌+◌, ◌≤◌}
use native.Mathlib.Omega.{arith}
use Rattle.text.proofs.Laws.{behind-long, wrote-append}
use Rattle.lines.specs.Lines.{total_of}
use Rattle.framing.proofs.closing.total.Goals as goal

-- each number ends within 21 bytes of where it begins
pub returns : goal.returns
unfolding total_of
returns c =
    let args = c.args in
    let word = c.bytes-a.ensures.fits (omega arith) in
    let frames = c.number-b.ensures.fits (omega (arith, word.next)) in
    let at : c.number-b.result ≤ args.at + 27 = omega (arith, word.next, frames.next, behind-long args.frames 32 c.ranges.frames.fits) in
    let accepted = c.number-c.ensures.fits (omega (arith, at)) in
    let at2 : c.number-c.result ≤ args.at + 48 = omega (arith, at, accepted.next, behind-long args.accepted 32 c.ranges.accepted.fits) in
    let refused = c.number-d.ensures.fits (omega (arith, at2)) in
    let at3 : c.number-d.result ≤ args.at + 69 = omega (arith, at2, refused.next, behind-long args.refused 32 c.ranges.refused.fits) in
    let bytes = c.number.ensures.fits (omega (arith, at3)) in
    wrote-append word (wrote-append frames (wrote-append accepted (wrote-append refused bytes)))
