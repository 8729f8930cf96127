-- The round trips of what the two calls ensure, over plain values.
-- Assumes nothing.
use mathlib.Core.Path.{◌≡◌, sym, ap, ◌∙◌, subst}
use mathlib.Core.List.{List}
use Prim.Native.Nat.{ℕ}
use native.Mathlib.Omega.{arith}
use lib.ListN.{length, drop}
use Rattle.std.specs.Prelude.{Ok, Err}
use Rattle.format.specs.Rows.{window}
use Rattle.format.specs.Strict.{ordinary}
use Rattle.format.specs.declared.Reading.{Reading}
use Rattle.format.specs.declared.Fault.{Fault}
use Rattle.format.proofs.Bytes.{Bytes}
use Rattle.records.specs.declared.Message.{Message}
use Rattle.reader.specs.Window.{window_m, window_of, Window}
use Rattle.reader.proofs.Back.{exactly, same-accepted}
use Rattle.laws.proofs.Answers.{stricter}
use Rattle.writer.specs.Writing.{Written, written_of, buffer_after, FieldsFit}
use Rattle.trips.specs.Trips.{written_in, again_of, again_in, ReadBack, WrittenBack}
use Rattle.trips.proofs.Back.{read_back}
use Rattle.trips.proofs.Rewritten.{written_back}

module _ (rd : Reading) where
  -- the writer's answer w and buffer u, then the reader's answer r
  pub write-then-read : (m : Message) (s : List ℕ) {u : List ℕ} {w : Written} {r : Window} → w ≡ written_of rd m (length s) → u ≡ buffer_after w m s
      → FieldsFit w m → window_m r ≡ window rd u → (r ≡ window_of rd (written_in rd m s)) × (u ≡ written_in rd m s) × ReadBack rd m s r
  write-then-read m s {u} {w} {r} q a f e =
      let k : u ≡ written_in rd m s = a ∙ ap (λ x. buffer_after x m s) q in
      let z : r ≡ window_of rd (written_in rd m s) = exactly rd (written_in rd m s) r (e ∙ ap (window rd) k) in
      let b : (n : ℕ) → written_of rd m (length s) ≡ Ok n → window_of (ordinary rd) (written_in rd m s) ≡ Ok (m, n) =
      λ n o. ap (λ x. window_of (ordinary rd) (buffer_after x m s)) o ∙ (read_back rd m s n o (subst (λ x. FieldsFit x m) (q ∙ o) f)).0 in
      (z, k, λ n o. rw (z, ← b n o) (stricter rd (written_in rd m s)))

  -- the reader's answer x is a message m, and then come the writer's answer w and buffer u
  pub read-then-write : (s t : List ℕ) (x : Window) (m : Message) (k : ℕ) {u : List ℕ} {w : Written} → Bytes s → window_m x ≡ window rd s
      → x ≡ Ok (m, k) → w ≡ written_of rd m (length t) → u ≡ buffer_after w m t
      → (Ok w ≡ again_of rd (window_of rd s) t) × (u ≡ again_in rd (window_of rd s) t) × WrittenBack rd s t (Ok w) u
  read-then-write s t x m k {u} {w} b p y q a =
      let o : window_of rd s ≡ Ok (m, k) = sym (exactly rd s x p) ∙ y in
      let v : u ≡ written_in rd m t = a ∙ ap (λ z. buffer_after z m t) q in (
        ap Ok q ∙ ap (λ z. again_of rd z t) (sym o),
        v ∙ ap (λ z. again_in rd z t) (sym o),
        λ m' n e l.
            let z : Ok (m, k) ≡ Ok (m', n) = sym o ∙ e in
            let i : m ≡ m' = (same-accepted z).0 in
            let g = written_back rd s m' n t b (ap window_m (sym e ∙ sym (exactly rd s x p)) ∙ p) l in
            let f = q ∙ ap (λ v. written_of rd v (length t)) i ∙ g.0 in
            let h = a ∙ ap (λ v. buffer_after v m t) f ∙ ap (λ v. buffer_after (Ok n) v t) i in
            (ap Ok f, ap (drop 2) h ∙ g.1, λ r. h ∙ g.2 r),
      )

  -- where the reader's answer x is no message, nothing is written
  pub read-no-more : (s t : List ℕ) (x : Window) (f : Fault) → window_m x ≡ window rd s → x ≡ Err f
      → (Err f ≡ again_of rd (window_of rd s) t) × (t ≡ again_in rd (window_of rd s) t) × WrittenBack rd s t (Err f) t
  read-no-more s t x f p q =
      let o : Err f ≡ window_of rd s = sym q ∙ exactly rd s x p in
      (ap (λ z. again_of rd z t) o, ap (λ z. again_in rd z t) o, λ m n g l. let y : ◌≡◌ {A = ℕ} 0 1 = cc (o ∙ g) in absurd (omega arith))
