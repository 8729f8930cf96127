-- `walking::judge_joined` meets its contract.
use Prim.Native.Nat.{ℕ}
use mathlib.Core.Path.{◌≡◌, ap, ◌∙◌}
use mathlib.Core.List.{List}
use borrow.Author.Rules.{rules}
use lib.ListN.{length}
use Rattle.reader.specs.Window.{window_of}
use Rattle.walk.specs.Walk.{judge_of}
use Rattle.walk.proofs.Cases.{judge-own}
use Rattle.walking.proofs.judge_joined.Goals as goal
use Rattle.walking.proofs.judge_joined.Goals.{then-w-eq0, else-w-eq0}

pub returns : goal.returns
returns c =
    let a = c.args in
    let f = λ (s : List ℕ). judge_of (window_of a.w.reading) s a.size in
    let l : length a.w.held ≡ 52 = search rules in
    elim c.if-w-eq0.branch [
      | then-w-eq0 w ↦ c.judge.ensures ∙ ap (λ b. f b.now) w.frame-is ∙ judge-own (window_of a.w.reading) a.w.seen a.w.held a.piece.now a.size l w.if-w-eq0.true c.requires
      | else-w-eq0 w ↦ c.judge.ensures ∙ ap (λ b. f b.now) w.frame-is ∙ ap f w.put_in-held.ensures
    ]
