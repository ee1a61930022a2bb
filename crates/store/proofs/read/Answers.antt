-- 1, 2 and 3 change nothing; `settle` does the rest.
use mathlib.Core.Path.{refl, sym, ap, ◌∙◌}
use native.Mathlib.Omega.{arith}
use Rattle.std.proofs.lemmas.Result.{err_from_is_err_and}
use Rattle.bytecode.proofs.TestLaws.{true→T}
use Rattle.model.specs.Image as Image
use Rattle.store.proofs.Verdicts.{gives_1, refuse, stores}
use Rattle.store.proofs.Refusals.{number_some}
use Rattle.store.proofs.ReadingLaws.{reading_refused, reading_accepted}
use Rattle.store.proofs.Settled.{lent_by, read_2, read_3, read_on}
use Rattle.store.proofs.read.Goals as goal

pub returns-then-not-length_fine : goal.returns-then-not-length_fine
returns-then-not-length_fine c =
    let number = refuse _ 1 _ _ _ (gives_1 _ _ (sym c.length_fine.ensures ∙ c.if-not-length_fine.true)) (omega arith) in
    (reading_refused _ _ _ _ _ _ _ number (omega arith), tt, number)

pub returns-then-not-header_fine : goal.returns-then-not-header_fine
returns-then-not-header_fine c =
    let number = refuse _ 2 _ _ _ (read_2 _ _ c.header_of-header.ensures (sym c.length_fine.ensures
    ∙ c.if-not-length_fine.false) (sym c.header_fine.ensures ∙ c.if-not-header_fine.true)) (omega arith) in
    (reading_refused _ _ _ _ _ _ _ number (omega arith), tt, number)

pub returns-then-not-buffers_fine : goal.returns-then-not-buffers_fine
returns-then-not-buffers_fine c =
    let number = refuse _ 3 _ _ _ (read_3 _ _ c.header_of-header.ensures (sym c.length_fine.ensures ∙ c.if-not-length_fine.false)
    (sym c.header_fine.ensures ∙ c.if-not-header_fine.false) (sym c.buffers_fine.ensures ∙ c.if-not-buffers_fine.true)) (omega arith) in
    (reading_refused _ _ _ _ _ _ _ number (omega arith), tt, number)

pub settle-requires : goal.settle-requires
settle-requires c =
    record {
      long = true→T (sym c.length_fine.ensures ∙ c.if-not-length_fine.false);
      objects = sym
          (ap (λ (h : Image.Header). h.n) c.header_of-header.ensures);
      words = sym (ap (λ (h : Image.Header). h.b) c.header_of-header.ensures);
      lent = lent_by c.header_of-header.result.edition _ _ c.args.cache _ _ (sym c.header_fine.ensures
          ∙ c.if-not-header_fine.false) (sym c.buffers_fine.ensures ∙ c.if-not-buffers_fine.false);
    }

pub returns-in_err-settle : goal.returns-in_err-settle
returns-in_err-settle c =
    let number = stores _ _ _ _ _ _ (read_on _ _ c.header_of-header.ensures (sym c.length_fine.ensures ∙ c.if-not-length_fine.false)
    (sym c.header_fine.ensures ∙ c.if-not-header_fine.false) (sym c.buffers_fine.ensures
    ∙ c.if-not-buffers_fine.false)) c.in_err-settle.ensures in
    let p = err_from_is_err_and c.from_residual.result c.from_residual.ensures.1 in
    rw (p.1, p.2) (reading_refused _ _ _ _ _ _ _ number (number_some _), tt, number)

pub returns : goal.returns
returns c =
    let number = stores _ _ _ _ _ _ (read_on _ _ c.header_of-header.ensures (sym c.length_fine.ensures ∙ c.if-not-length_fine.false)
    (sym c.header_fine.ensures ∙ c.if-not-header_fine.false) (sym c.buffers_fine.ensures
    ∙ c.if-not-buffers_fine.false)) c.in_ok-settle.ensures in
    (reading_accepted _ _ _ _ _ _ _ number refl, c.header_of-header.ensures, number)
