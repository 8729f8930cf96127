-- The cases of a plan, over the values that the code has where it returns; and the step that each plan leads to.
-- Assumes nothing.
use Prim.Native.Nat.{ℕ, ◌≤◌, ◌<◌, ◌-◌, ◌+◌}
use mathlib.Core.Path.{◌≡◌, refl, sym, ap, ◌∙◌, subst}
use mathlib.Core.Bool.{Bool, true, false, cond}
use mathlib.Core.List.{List}
use native.Mathlib.Omega.{arith}
use borrow.Author.Tests.{lt-ltb, le-ltb}
use lib.ListN.{length}
use lib.Dec.{ltb}
use Rattle.reader.specs.Window.{Window}
use Rattle.walk.specs.declared.Walk.{Walk}
use Rattle.walk.specs.declared.Stepped.{Stepped}
use Rattle.walk.specs.Walk.{frame_size, sound_of, countable, put, Ready, judge_of, done_of, more_of, refused_of, moved_by, moved_of, step_of}
use Rattle.plan.specs.declared.Plan.{Plan}
use Rattle.plan.specs.declared.Plan.TheVariants.{Refuse, Take, End}
use Rattle.plan.specs.Plan.{plan_of, PlanHolds}

module _ (w : Walk) (p : List ℕ) where
  pub plan-30 : sound_of w ≡ false → Refuse 30 ≡ plan_of w p
  unfolding plan_of
  plan-30 s = rw s

  module _ (s : sound_of w ≡ true) where
    pub plan-33 : countable w.offset w.seen (length p) ≡ false → Refuse 33 ≡ plan_of w p
    unfolding plan_of
    plan-33 r = rw (s, r)

    module _ (r : countable w.offset w.seen (length p) ≡ true) (size : ℕ) (z : size ≡ frame_size (put w.held w.seen p)) where
      pub plan-take : w.seen + length p < size → Take ≡ plan_of w p
      unfolding plan_of
      plan-take lt = rw (s, r, lt-ltb (w.seen + length p) (frame_size (put w.held w.seen p)) (omega arith))

      pub plan-end : size ≤ w.seen + length p → End (size - w.seen) size ≡ plan_of w p
      unfolding plan_of
      plan-end le = rw (s, r, le-ltb (w.seen + length p) (frame_size (put w.held w.seen p)) (omega arith), z)

-- the step that goes by a plan, over any window's answer
module _ (win : List ℕ → Window) (w : Walk) (p : List ℕ) where
  abbrev pub step_by : Plan → Stepped
  step_by (Refuse number) = refused_of w number
  step_by Take = more_of w (put w.held w.seen p) (length p)
  step_by (End used size) = done_of w used size (judge_of win (put w.held w.seen p) size)

  by_cond : (a b c : Bool) (x y z u : Plan)
      → step_by (cond a (cond b (cond c x y) z) u) ≡ cond a (cond b (cond c (step_by x) (step_by y)) (step_by z)) (step_by u)
  by_cond true true true x y z u = refl
  by_cond true true false x y z u = refl
  by_cond true false c x y z u = refl
  by_cond false b c x y z u = refl

  pub by-plan : step_by (plan_of w p) ≡ step_of win w p
  unfolding plan_of step_of moved_of moved_by
  by-plan =
      let size = frame_size (put w.held w.seen p) in
      by_cond (sound_of w) (countable w.offset w.seen (length p)) (ltb (w.seen + length p) size) Take (End (size - w.seen) size) (Refuse 33) (Refuse 30)

  -- a plan that is known: the step, and what is known of the state
  pub by-known : {r x : Plan} → r ≡ plan_of w p → r ≡ x → step_by x ≡ step_of win w p
  by-known e q = ap step_by (sym q ∙ e) ∙ by-plan

pub take-fits : (w : Walk) (n : ℕ) (r : Plan) → r ≡ Take → PlanHolds r w n → Ready w n
unfolding PlanHolds
take-fits w n r q f = subst (λ x. PlanHolds x w n) q f

pub end_fits : (w : Walk) (n used size : ℕ) (r : Plan) → r ≡ End used size → PlanHolds r w n → Ready w n × (size ≤ w.seen + n)
unfolding PlanHolds
end_fits w n used size r q f = subst (λ x. PlanHolds x w n) q f
