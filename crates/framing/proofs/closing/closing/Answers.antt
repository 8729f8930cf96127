-- `framing::closing::closing` meets its contract.
use Prim.Native.Nat.{ℕ, ◌^◌, ◌≤◌, ◌<◌}
use native.Mathlib.Omega.{arith}
use lib.ListN.{length, length-append}
use Rattle.text.specs.Decimal.{behind}
use Rattle.text.proofs.Laws.{behind-long, wrote-append}
use Rattle.lines.specs.Lines.{tail_of}
use borrow.Author.Rules.{rules}
use Rattle.framing.proofs.closing.closing.Goals as goal

tail-long : (offset left : ℕ) → offset < 2 ^ 64 → left < 2 ^ 64 → length (tail_of offset left) ≤ 47
unfolding tail_of
tail-long offset left h g =
    rw (length-append (behind offset 32) (behind left 10)) (omega (arith, behind-long offset 32 h, behind-long left 10 g))

pub total-requires : goal.total-requires
total-requires c =
    let w = c.args.w in
    omega (arith, tail-long w.offset w.seen (search rules) (search rules), c.tail-next.ensures.next, c.requires.1)

pub returns : goal.returns
returns c = wrote-append c.tail-next.ensures c.total.ensures
