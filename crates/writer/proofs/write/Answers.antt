-- `writer::write` meets its contract.
use mathlib.Core.Path.{◌≡◌, refl, sym, ap, ◌∙◌, subst}
use mathlib.Core.Bool.{true, false}
use mathlib.Core.List.{◌∷◌, ◌++◌}
use native.Mathlib.Omega.{arith}
use Prim.Native.Nat.{◌+◌, ◌≤◌}
use lib.ListN.{length, drop}
use borrow.Author.Tests.{not-true, not-false}
use Rattle.std.specs.Prelude.{Ok}
use Rattle.format.specs.Rows.{size_of, header}
use Rattle.pen.specs.Encode.{Sized, put_row}
use Rattle.writer.specs.Writing.{tag_of, head_of, encode, buffer_after, FieldsFit}
use Rattle.writer.proofs.Says.{told-tag, told-texts, told-intraday, says40, says40-unknown, says41, says42, says43, says44, says-done, known, all-put}
use Rattle.writer.proofs.write.Goals as goal

pub returns-then-tag-own : goal.returns-then-tag-own
unfolding buffer_after FieldsFit
returns-then-tag-own c =
    let a = c.args in record {
      value = says40 a.reading a.m (length a.buf.now) (λ e. c.if-tag-own.true (e ∙ sym (told-tag a.m.body c.check_body-own.ensures)));
      buf_after = refl;
      fields_fit = tt;
    }

pub returns-then-size-eq0 : goal.returns-then-size-eq0
unfolding buffer_after FieldsFit
returns-then-size-eq0 c =
    let a = c.args in record {
      value = says40-unknown a.reading a.m (length a.buf.now) (c.if-tag-own.false ∙ told-tag a.m.body c.check_body-own.ensures)
          (sym c.size_of_tag-size.ensures ∙ c.if-size-eq0.true);
      buf_after = refl;
      fields_fit = tt;
    }

pub returns-then-late : goal.returns-then-late
unfolding buffer_after FieldsFit
returns-then-late c =
    let a = c.args in
    let z = known a.reading a.m.tag c.size_of_tag-size.ensures c.if-size-eq0.false in record {
      value = says41 a.reading a.m (length a.buf.now) (c.if-tag-own.false ∙ told-tag a.m.body c.check_body-own.ensures) z.0
          c.if-late.true;
      buf_after = refl;
      fields_fit = tt;
    }

pub returns-then-garbled : goal.returns-then-garbled
unfolding buffer_after FieldsFit
returns-then-garbled c =
    let a = c.args in
    let b = a.m.body in
    let k = c.check_body-own.ensures in
    let z = known a.reading a.m.tag c.size_of_tag-size.ensures c.if-size-eq0.false in record {
      value = says42 a.reading a.m (length a.buf.now) (c.if-tag-own.false ∙ told-tag b k) z.0 c.if-late.false
          (told-texts b k false (not-true _ c.if-garbled.true));
      buf_after = refl;
      fields_fit = tt;
    }

pub returns-then-own : goal.returns-then-own
unfolding buffer_after FieldsFit
returns-then-own c =
    let a = c.args in
    let b = a.m.body in
    let k = c.check_body-own.ensures in
    let z = known a.reading a.m.tag c.size_of_tag-size.ensures c.if-size-eq0.false in record {
      value = says43 a.reading a.m (length a.buf.now) (c.if-tag-own.false ∙ told-tag b k) z.0 c.if-late.false
          (told-texts b k true (not-false _ c.if-garbled.false)) (told-intraday b k true c.if-own.true);
      buf_after = refl;
      fields_fit = tt;
    }

pub returns-then-buf-n : goal.returns-then-buf-n
unfolding buffer_after FieldsFit
returns-then-buf-n c =
    let a = c.args in
    let b = a.m.body in
    let k = c.check_body-own.ensures in
    let z = known a.reading a.m.tag c.size_of_tag-size.ensures c.if-size-eq0.false in record {
      value = says44 a.reading a.m (length a.buf.now) (c.if-tag-own.false ∙ told-tag b k) z.0 c.if-late.false
          (told-texts b k true (not-false _ c.if-garbled.false)) (told-intraday b k false c.if-own.false) (omega (arith, z.1));
      buf_after = refl;
      fields_fit = tt;
    }

pub put_header-requires : goal.put_header-requires
put_header-requires c = c.if-late.false

pub returns : goal.returns
unfolding buffer_after FieldsFit
returns c =
    let r = c.size_of_tag-size in
    let rd = c.args.reading in
    let m = c.args.m in
    let s = c.args.buf.now in
    let k = c.check_body-own.ensures in
    let z = known rd m.tag r.ensures c.if-size-eq0.false in
    let n : 2 + r.result ≡ 2 + size_of m.tag = ap (λ k. 2 + k) z.1 in
    let t : m.tag ≡ tag_of m.body = c.if-tag-own.false ∙ told-tag m.body k in
    let l : 2 + size_of m.tag ≤ length s = omega (arith, c.if-buf-n.false) in
    let h = c.put_header.ensures in record {
      value = ap Ok n
          ∙ says-done rd m (length s) t z.0 c.if-late.false (told-texts m.body k true (not-false _ c.if-garbled.false))
          (told-intraday m.body k false c.if-own.false) l;
      buf_after = all-put m s t l (h.0 ∙ ap (λ k. put_row s 0 header (k ∷ drop 1 (head_of m))) z.1) c.put_body.ensures.0
          ∙ ap (λ k. encode m ++ drop k s) (sym n);
      fields_fit = (subst (λ k. Sized header (k ∷ drop 1 (head_of m))) z.1 h.1, c.put_body.ensures.1);
    }
