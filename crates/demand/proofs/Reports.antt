-- The meaning of an answer of the walk determines it; and what a step answers, and the frame rule, in the scope's numbers and values.
-- Assumes nothing.
use Prim.Native.Nat.{ℕ, ◌+◌, ◌-◌, min}
use mathlib.Core.Path.{◌≡◌, refl, ap, ◌∙◌}
use mathlib.Core.Bool.{cond}
use mathlib.Core.List.{List}
use lib.Dec.{ltb}
use lib.ListN.{length, take}
use Rattle.std.specs.Prelude.{Ok, Err}
use Rattle.format.specs.declared.Fault.TheVariants.{Short, Refused}
use Rattle.format.specs.Meaning.{refusal}
use Rattle.records.proofs.Back.{body_back}
use Rattle.reader.specs.Window.{window_m, Window}
use Rattle.laws.proofs.Unique.{one-to-one, pushed}
use Rattle.walk.specs.declared.Walk.{Walk}
use Rattle.walk.specs.declared.Stepped.{Stepped}
use Rattle.walk.specs.declared.Answer.{Answer}
use Rattle.walk.specs.declared.Answer.TheVariants.{Frame, WantsMore, Refused as Refuses}
use Rattle.walk.specs.Walk.{frame_size, verdict_of, frame_of, judge_of, sound_of, countable, put, done_of, more_of, refused_of, moved_by, moved_of, step_of, Verdict}
use Rattle.walk.specs.Meaning.{Ruling, ruling_m, ruling_from, Report, frame, more, fault, report_m, report_from}
use Rattle.demand.specs.Reports.{ruling_of, moved_report, step_report}

pub ruling-back : (v : Verdict) → ruling_from (ruling_m v) ≡ v
ruling-back (Ok m) = simp body_back
ruling-back (Err r) = refl

pub report-back : (a : Answer) → report_from (report_m a) ≡ a
report-back (Frame offset size what) = ap (Frame offset size) (ruling-back what)
report-back WantsMore = refl
report-back (Refuses n) = refl

pub ruling-unique : (v v' : Verdict) → ruling_m v ≡ ruling_m v' → v ≡ v'
ruling-unique = one-to-one ruling_m ruling_from ruling-back

pub report-unique : (a a' : Answer) → report_m a ≡ report_m a' → a ≡ a'
report-unique = one-to-one report_m report_from report-back

abbrev said : Stepped → Report
said x = report_m x.answer

verdict-means : (w : Window) (size : ℕ) → ruling_m (verdict_of w size) ≡ ruling_of (window_m w) size
verdict-means (Ok (m, used)) size = pushed ruling_m (ltb used size) (Err (refusal 21 0)) (Ok m)
verdict-means (Err Short) size = refl
verdict-means (Err (Refused r)) size = refl

module _ (win : List ℕ → Window) where
  abbrev reads : List ℕ → Rattle.format.specs.Layout.Answer
  reads s = window_m (win s)

  -- the frame rule: the window's answer for the frame's bytes alone, turned
  pub frame-means : (f : List ℕ) → ruling_m (frame_of win f) ≡ ruling_of (window_m (win f)) (length f)
  unfolding frame_of
  frame-means f = verdict-means (win f) (length f)

  moved-means : (w : Walk) (h : List ℕ) (n : ℕ) → said (moved_by win w h n) ≡ moved_report reads w h n
  unfolding moved_by done_of judge_of
  moved-means w h n =
      let b = ltb (w.seen + n) (frame_size h) in
      pushed said b (more_of w h n) (done_of w (frame_size h - w.seen) (frame_size h) (judge_of win h (frame_size h)))
      ∙ ap (λ (x : Ruling). cond b more (frame w.offset (frame_size h) x)) (verdict-means (win (take (min (frame_size h) 52) h)) (frame_size h))

  pub step-means : (w : Walk) (piece : List ℕ) → report_m (step_of win w piece).answer ≡ step_report (λ s. window_m (win s)) w piece
  unfolding step_of moved_of
  step-means w piece =
      let b = countable w.offset w.seen (length piece) in
      let go = moved_by win w (put w.held w.seen piece) (length piece) in
      pushed said (sound_of w) (cond b go (refused_of w 33)) (refused_of w 30)
      ∙ ap (λ (x : Report). cond (sound_of w) x (fault 30))
      (pushed said b go (refused_of w 33) ∙ ap (λ (x : Report). cond b x (fault 33)) (moved-means w (put w.held w.seen piece) (length piece)))
