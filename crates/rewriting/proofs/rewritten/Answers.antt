-- `rewriting::rewritten` meets its contract: a message that was read is written, and what is written of it is what was read exactly where its length is its size.
use Prim.Native.Nat.{ℕ, ◌≤◌}
use mathlib.Core.Path.{◌≡◌, ap, ◌∙◌}
use mathlib.Core.List.{List}
use native.Mathlib.Omega.{arith}
use lib.ListN.{get_or, length, replicate}
use mir.Syntax.{w8}
use mir.Val.{Fits}
use borrow.Author.Rules.{rules}
use Rattle.std.specs.Prelude.{Ok}
use Rattle.format.proofs.Bytes.{Bytes}
use Rattle.writer.specs.Writing.{buffer_after}
use Rattle.rewriting.proofs.Same.{within, is-written, is_same}
use Rattle.rewriting.proofs.rewritten.Goals as goal
use Rattle.rewriting.proofs.rewritten.Goals.{After-write}

abbrev zeros : List ℕ
zeros = replicate 52 0

bytes : (c : After-write) → Bytes c.args.bytes
bytes c i = let f : Fits w8 (get_or c.args.bytes i 0) = search rules in f.fits

room : (c : After-write) → c.args.n ≤ 52
room c =
    let l : length c.args.bytes ≡ 52 = search rules in
    omega (arith, within c.args.reading c.args.bytes c.args.m c.args.n c.requires)

done : (c : After-write) → c.write.result ≡ Ok c.args.n
done c =
    let a = c.args in
    is-written a.reading a.bytes a.m a.n zeros (bytes c) c.requires (room c) c.write.ensures.value

pub returns-in_default : goal.returns-in_default
returns-in_default c = let z : ◌≡◌ {A = ℕ} 0 1 = cc (done (goal.at.returns-in_default c).After-write) in absurd (omega arith)

pub returns-then-k-n : goal.returns-then-k-n
returns-then-k-n c =
    let k : c.in-Ok.k ≡ c.args.n = cc (done (goal.at.returns-then-k-n c).After-write, c.in-Ok.is) in
    absurd (c.if-k-n.true k)

pub compared-requires : goal.compared-requires
compared-requires c = room (goal.at.compared-requires c).After-write

pub returns : goal.returns
returns c =
    let a = c.args in
    is_same a.reading a.bytes a.m a.n zeros (bytes (goal.at.returns c).After-write) c.requires (room (goal.at.returns c).After-write) c.compared.result
    (c.write.ensures.buf_after ∙ ap (λ w. buffer_after w a.m zeros) (done (goal.at.returns c).After-write)) c.compared.ensures
