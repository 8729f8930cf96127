-- The cases of the writer's answer, over plain values; the laws of bodies that the writer cites.
-- Assumes nothing.
use mathlib.Core.Path.{◌≡◌, refl, sym, ap, ◌∙◌}
use mathlib.Core.List.{List, ◌++◌}
use mathlib.Core.Bool.{Bool, true, false, ◌&&◌}
use mathlib.Core.Logic.{⊎_elim}
use native.Mathlib.Omega.{arith}
use Prim.Native.Nat.{ℕ, ◌+◌, ◌^◌, ◌≤◌, ◌<◌}
use lib.ListN.{length, length-append, get_or, drop}
use lib.Seq.{sets, sets-eq, length-sets}
use borrow.Author.Tests.{eq-eqb, ne_eqb, lt-ltb, le-ltb, le-leb, lt-leb}
use Rattle.std.specs.Prelude.{Ok, Err}
use Rattle.format.specs.Utf8.{well_formed}
use Rattle.format.specs.Layout.{widths}
use Rattle.format.specs.Rows.{size_in, size_of, size_by, header}
use Rattle.format.specs.declared.Reading.{Reading}
use Rattle.format.proofs.Editions.{row_in}
use Rattle.pen.specs.Encode.{digits, write, layout, put_row}
use Rattle.pen.proofs.Digits.{sets-append}
use Rattle.pen.proofs.Puts.{length-write, row_fits}
use Rattle.std.proofs.Common.{Option, Some, None}
use Rattle.records.specs.declared.AddOrder.{AddOrder}
use Rattle.records.specs.declared.Body.{Body}
use Rattle.records.specs.declared.Body.TheVariants as Body·
use Rattle.records.specs.declared.Message.{Message}
use Rattle.records.specs.Values.{order_values, values}
use Rattle.writer.specs.declared.Checked.{Checked}
use Rattle.writer.specs.declared.WriteError.TheVariants.{Kind, Time, Text, Intraday, Room}
use Rattle.writer.specs.Writing.{tag_of, fields_of, texts_of, intraday, checked_of, mpid_tag, mpid_fine, head_of, encode, written_of}

and-true : (b : Bool) → b && true ≡ b
and-true true = refl
and-true false = refl

-- the parts of what was looked at
module _ (b : Body) {k : Checked} (e : k ≡ checked_of (values b)) where
  pub told-tag : k.tag ≡ tag_of b
  told-tag = ap (λ (x : Checked). x.tag) e

  pub told-texts : (v : Bool) → k.texts ≡ v → texts_of (values b) ≡ v
  told-texts v q = sym (ap (λ (x : Checked). x.texts) e) ∙ q

  pub told-intraday : (v : Bool) → k.intraday ≡ v → intraday (values b) ≡ v
  told-intraday v q = sym (ap (λ (x : Checked). x.intraday) e) ∙ q

-- of equal bodies the same is found
pub checked : {b x : Body} → b ≡ x → checked_of (values b) ≡ checked_of (values x)
checked q = ap (λ b. checked_of (values b)) q

-- what is looked at before a body is written, by how many texts it has
abbrev looked : ℕ → Bool → Bool → Checked
looked t x i = record { tag = t; texts = x; intraday = i }

pub one-text : (t w v : ℕ) {r i j : Bool} {k : Checked} → k ≡ looked t (well_formed (digits w v) && true) i → r ≡ well_formed (digits w v) → j ≡ i
    → looked t r j ≡ k
one-text t w v {r} {i} q e f = ap (λ j. looked t r j) f ∙ ap (λ x. looked t x i) (e ∙ sym (and-true (well_formed (digits w v)))) ∙ sym q

pub two-texts : (t w v x y : ℕ) {r a b : Bool} {k : Checked} → k ≡ looked t (well_formed (digits w v) && (well_formed (digits x y) && true)) false
    → a ≡ well_formed (digits w v) → b ≡ well_formed (digits x y) → r ≡ a && b → looked t r false ≡ k
two-texts t w v x y {b = b} q e f g =
    ap (λ x. looked t x false) (g ∙ ap (λ a. a && b) e ∙ ap (λ b. well_formed (digits w v) && b) (f ∙ sym (and-true (well_formed (digits x y))))) ∙ sym q

pub order-checked : (a : AddOrder) (p : Option ℕ) {t : ℕ} {r x y : Bool} → t ≡ mpid_tag p → x ≡ well_formed (digits 8 a.stock) → y ≡ mpid_fine p → r ≡ x && y
    → looked t r false ≡ checked_of (order_values a p)
unfolding texts_of intraday layout
order-checked a p {r = r} {y = y} h e f g =
    let q : r ≡ well_formed (digits 8 a.stock) && mpid_fine p = g ∙ ap (λ x. x && y) e ∙ ap (λ y. well_formed (digits 8 a.stock) && y) f in
    ap (λ t. looked t r false) h ∙ ap (λ x. looked (mpid_tag p) x false) q ∙ go p
  where
    go : (p : Option ℕ) → looked (mpid_tag p) (well_formed (digits 8 a.stock) && mpid_fine p) false ≡ checked_of (order_values a p)
    go None = refl
    go (Some v) = ap (λ y. looked (mpid_tag (Some v)) (well_formed (digits 8 a.stock) && y) false) (sym (and-true (well_formed (digits 4 v))))

-- a body goes by its tag's row: the size is that of the fields, counted from the tag on; behind the tag stand as many values as the row has fields
abbrev Rowed : List ℕ → Type 0
Rowed vs = (size_of (get_or vs 0 0) ≡ 11 + widths (layout (get_or vs 0 0))) × (length vs ≡ 1 + length (layout (get_or vs 0 0)))

order-rowed : (a : AddOrder) (p : Option ℕ) → Rowed (order_values a p)
unfolding size_of layout
order-rowed a None = (refl, refl)
order-rowed a (Some v) = (refl, refl)

body-rowed : (b : Body) → Rowed (values b)
unfolding size_of layout
body-rowed (Body·.AddOrder x) = order-rowed x x.mpid
body-rowed (Body·.Breach x) = (refl, refl)
body-rowed (Body·.BrokenTrade match-number) = (refl, refl)
body-rowed (Body·.CrossTrade x) = (refl, refl)
body-rowed (Body·.DeleteOrder reference) = (refl, refl)
body-rowed (Body·.Imbalance x) = (refl, refl)
body-rowed (Body·.IpoQuotingPeriod x) = (refl, refl)
body-rowed (Body·.LULDAuctionCollar stock ref-price upper-price lower-price extension) = (refl, refl)
body-rowed (Body·.MwcbDeclineLevel level1 level2 level3) = (refl, refl)
body-rowed (Body·.NonCrossTrade x) = (refl, refl)
body-rowed (Body·.OrderCancelled reference cancelled) = (refl, refl)
body-rowed (Body·.OrderExecuted reference executed match-number) = (refl, refl)
body-rowed (Body·.OrderExecutedWithPrice reference executed match-number printable price) = (refl, refl)
body-rowed (Body·.ParticipantPosition x) = (refl, refl)
body-rowed (Body·.RegShoRestriction stock action) = (refl, refl)
body-rowed (Body·.ReplaceOrder x) = (refl, refl)
body-rowed (Body·.RetailPriceImprovementIndicator x) = (refl, refl)
body-rowed (Body·.StockDirectory x) = (refl, refl)
body-rowed (Body·.SystemEvent event) = (refl, refl)
body-rowed (Body·.TradingAction stock trading-state reserved reason) = (refl, refl)
body-rowed (Body·.OperationalHalt stock market-code action) = (refl, refl)
body-rowed (Body·.DirectListing x) = (refl, refl)

pub body-size : (b : Body) → size_of (tag_of b) ≡ 11 + widths (layout (tag_of b))
body-size b = (body-rowed b).0

pub body-count : (b : Body) → length (values b) ≡ 1 + length (layout (tag_of b))
body-count b = (body-rowed b).1

-- a reading that has a tag has it with the size that the tag has
size-by : (rd : Reading) (t : ℕ) → 0 < size_by rd t → size_by rd t ≡ size_of t
unfolding size_by size_of
size-by rd t h = ⊎_elim (ap size_in) (λ e. absurd (omega (arith, ap size_in e))) (row_in rd t)

-- what was found, if it is not zero
pub known : (rd : Reading) (t : ℕ) {n : ℕ} → n ≡ size_by rd t → (n ≡ 0 → ⊥) → (0 < size_by rd t) × (n ≡ size_of t)
known rd t e h = let l : 0 < size_by rd t = omega arith in (l, e ∙ size-by rd t l)

-- the answers
module _ (rd : Reading) (m : Message) (room : ℕ) where
  pub says40 : (m.tag ≡ tag_of m.body → ⊥) → Err Kind ≡ written_of rd m room
  unfolding written_of
  says40 h = rw (ne_eqb _ _ h)

  module _ (t : m.tag ≡ tag_of m.body) where
    pub says40-unknown : size_by rd m.tag ≡ 0 → Err Kind ≡ written_of rd m room
    unfolding written_of
    says40-unknown z = rw (eq-eqb _ _ t, z)

    module _ (k : 0 < size_by rd m.tag) where
      pub says41 : 2 ^ 48 ≤ m.timestamp → Err Time ≡ written_of rd m room
      unfolding written_of
      says41 h = rw (eq-eqb _ _ t, lt-ltb _ _ k, le-ltb _ _ h)

      module _ (h : m.timestamp < 2 ^ 48) where
        pub says42 : texts_of (values m.body) ≡ false → Err Text ≡ written_of rd m room
        unfolding written_of
        says42 f = rw (eq-eqb _ _ t, lt-ltb _ _ k, lt-ltb _ _ h, f)

        module _ (f : texts_of (values m.body) ≡ true) where
          pub says43 : intraday (values m.body) ≡ true → Err Intraday ≡ written_of rd m room
          unfolding written_of
          says43 i = rw (eq-eqb _ _ t, lt-ltb _ _ k, lt-ltb _ _ h, f, i)

          module _ (i : intraday (values m.body) ≡ false) where
            pub says44 : room < 2 + size_of m.tag → Err Room ≡ written_of rd m room
            unfolding written_of
            says44 l = rw (eq-eqb _ _ t, lt-ltb _ _ k, lt-ltb _ _ h, f, i, lt-leb _ _ l)

            pub says-done : 2 + size_of m.tag ≤ room → Ok (2 + size_of m.tag) ≡ written_of rd m room
            unfolding written_of
            says-done l = rw (eq-eqb _ _ t, lt-ltb _ _ k, lt-ltb _ _ h, f, i, le-leb _ _ l)

-- the header, then the body: the message, and later bytes stay
length-encode : (m : Message) → m.tag ≡ tag_of m.body → length (encode m) ≡ 2 + size_of m.tag
unfolding encode
length-encode m t =
    let z : size_of m.tag ≡ 11 + widths (layout m.tag) = rw t (body-size m.body) in
    length-append (write header (head_of m)) (write (layout m.tag) (fields_of m.body))
    ∙ ap (λ n. n + length (write (layout m.tag) (fields_of m.body))) (length-write header (head_of m))
    ∙ ap (λ n. 13 + n) (length-write (layout m.tag) (fields_of m.body)) ∙ omega arith

pub all-put : (m : Message) (s : List ℕ) {t u : List ℕ} → m.tag ≡ tag_of m.body → 2 + size_of m.tag ≤ length s
    → t ≡ put_row s 0 header (head_of m) → u ≡ put_row t 13 (layout (tag_of m.body)) (fields_of m.body) → u ≡ encode m ++ drop (2 + size_of m.tag) s
unfolding encode
all-put m s {t} {u} q l e f =
    let h : List ℕ = write header (head_of m) in
    let b : List ℕ = write (layout (tag_of m.body)) (fields_of m.body) in
    let z : size_of m.tag ≡ 11 + widths (layout (tag_of m.body)) = ap size_of q ∙ body-size m.body in
    let y : t ≡ sets s 0 h = e ∙ row_fits s 0 header (head_of m) (omega arith) in
    let k : length t ≡ length s = ap length y ∙ length-sets s 0 h in
    let x : u ≡ sets t 13 b = f ∙ row_fits t 13 (layout (tag_of m.body)) (fields_of m.body) (omega arith) in
    let w : sets (sets s 0 h) (0 + length h) b ≡ sets s 0 (h ++ b) = sym (sets-append s 0 h b) in
    let o : 0 + length h ≡ 13 = ap (λ n. 0 + n) (length-write header (head_of m)) in
    let g : u ≡ sets s 0 (encode m) =
    x ∙ ap (λ r. sets r 13 b) y ∙ ap (λ n. sets (sets s 0 h) n b) (sym o) ∙ w ∙ ap (λ n. sets s 0 (h ++ write (layout n) (fields_of m.body))) (sym q) in
    let n : length (encode m) ≡ 2 + size_of m.tag = length-encode m q in
    let k : 0 + length (encode m) ≡ 2 + size_of m.tag = omega arith in
    g ∙ sets-eq (encode m) s 0 (omega arith) ∙ ap (λ i. encode m ++ drop i s) k
