-- What the contract of `run` excludes: an end that no read showed, and a run with no read.
-- Assumes nothing.
use Prim.Native.Nat.{ℕ}
use mathlib.Core.Path.{◌≡◌, refl, sym, ap, ◌∙◌}
use mathlib.Core.Bool.{false}
use mathlib.Core.List.{List, [], ◌∷◌}
use native.Mathlib.Omega.{arith}
use lib.ListN.{length}
use Rattle.standard.specs.declared.Brought.{Brought}
use Rattle.standard.specs.Reads.{Silent, has_failed}
use Rattle.format.specs.declared.Reading.{Reading}
use Rattle.records.specs.declared.Message.{Message as Record}
use Rattle.stream.specs.declared.Answer.{Answer}
use Rattle.stream.specs.declared.Answer.TheVariants.{Nothing}
use Rattle.heard.specs.Heard.{Heard, heard_at, heard_of}
use Rattle.feeding.specs.declared.Turn.{Turn}
use Rattle.tallying.specs.Reads.{Ends, judged, ended, failed, full, Tallied}

-- nothing more only behind a read that brought nothing
at-end : {rd : Reading} {came : List ℕ} {ms : List Record} (a : Answer) (b : Brought) → Ends rd came ms a b → a ≡ Nothing → Silent b × (has_failed b ≡ false)
at-end _ b (judged h l e) z = let q : ◌≡◌ {A = ℕ} 0 1 = cc in absurd (omega arith)
at-end a b (ended s f e) z = (s, f)
at-end _ b (failed w s f e) z = let q : ◌≡◌ {A = ℕ} 0 1 = cc in absurd (omega arith)
at-end _ b (full h f e) z = let q : ◌≡◌ {A = ℕ} 0 1 = cc in absurd (omega arith)

pub nothing-at-end : {rd : Reading} {c d : List ℕ} (r : Turn) → Tallied rd c r d → r.step.answer ≡ Nothing
    → Silent r.brought × (has_failed r.brought ≡ false)
nothing-at-end r t z = at-end r.step.answer r.brought t.ends z

-- no bytes hold no message, and nothing more
none : (rd : Reading) (l : List ℕ) → length l ≡ 0 → heard_of rd l ≡ record { messages = []; stop = Nothing }
unfolding heard_at
none rd [] z = refl
none rd (x ∷ l) z = absurd (omega arith)

unread : {rd : Reading} {came : List ℕ} {ms : List Record} (a : Answer) (b : Brought) → Ends rd came ms a b → length came ≡ 0 → b.room ≡ 0 → ⊥
unread {rd} {came} _ b (judged h l e) z m =
    let q = ap (λ (y : Heard). y.stop) (sym (none rd came z) ∙ e) in
    let o : ◌≡◌ {A = ℕ} 0 1 = cc in
    omega arith
unread a b (ended s f e) z o = omega (arith, s.asked)
unread _ b (failed w s f e) z o = omega (arith, s.asked)
unread {rd} {came} _ b (full h f e) z o = f (omega arith)

-- no run without a read
pub some_read : {rd : Reading} {c d : List ℕ} (r : Turn) → Tallied rd c r d → r.brought.total ≡ 0 → r.brought.room ≡ 0 → ⊥
some_read r t z m = unread r.step.answer r.brought t.ends (omega (arith, t.total)) m
