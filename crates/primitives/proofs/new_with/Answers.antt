-- The tests of `new_with`, then `make`.
use mathlib.Core.Path.{sym, ◌∙◌}
use native.Mathlib.Omega.{arith}
use Rattle.bytecode.proofs.TestLaws.{true→T}
use Rattle.model.proofs.Facts.{class_facts}
use Rattle.objects.proofs.Buffers.{contents_room}
use Rattle.primitives.proofs.Growing.{does_none, does_same, with_no_class, with_no_natural, with_words, with_bytes, with_other}
use Rattle.primitives.proofs.Indexing.{natural_some, natural_none, natural_most}
use Rattle.primitives.proofs.new_with.Goals as goal

pub is_kind-requires : goal.is_kind-requires
is_kind-requires c =
    let args = c.args in
    contents_room args.n args.b args.contents.now args.bodies.now c.requires.1

pub returns-then-not-is_kind : goal.returns-then-not-is_kind
returns-then-not-is_kind c =
    let args = c.args in
    does_none c.requires.1 c.failed.ensures
    (with_no_class _ _ _ _ (sym (c.is_kind.ensures args.b args.bodies.now) ∙ c.if-not-is_kind.true))

pub returns-in_default : goal.returns-in_default
returns-in_default c =
    let args = c.args in
    does_none c.requires.1 c.failed-in_default.ensures
    (with_no_natural _ _ _ (sym (c.is_kind.ensures args.b args.bodies.now) ∙ c.if-not-is_kind.false) _ (natural_none _ _ c.natural.ensures c.in_default.is))

pub form_of-requires : goal.form_of-requires
form_of-requires c =
    record { right = c.requires; kinds = true→T (sym (c.is_kind.ensures c.args.b c.args.bodies.now) ∙ c.if-not-is_kind.false) }

pub field_count-requires : goal.field_count-requires
field_count-requires c =
    record { right = c.requires; kinds = true→T (sym (c.is_kind.ensures c.args.b c.args.bodies.now) ∙ c.if-not-is_kind.false) }

pub overflow_add-count : goal.overflow_add-count
overflow_add-count c =
    let args = c.args in
    let f = (class_facts c.requires.1 args.w (true→T (sym (c.is_kind.ensures args.b args.bodies.now)
    ∙ c.if-not-is_kind.false))).fields in let e = c.field_count.ensures in let l = natural_most _ _ (natural_some _ _ c.natural.ensures c.in-Some.is) in omega arith

pub overflow_cast-count : goal.overflow_cast-count
overflow_cast-count c =
    let args = c.args in
    let f = (class_facts c.requires.1 args.w (true→T (sym (c.is_kind.ensures args.b args.bodies.now)
    ∙ c.if-not-is_kind.false))).fields in let e = c.field_count.ensures in let l = natural_most _ _ (natural_some _ _ c.natural.ensures c.in-Some.is) in omega arith

pub make-requires : goal.make-requires
make-requires c =
    let args = c.args in
    let f = (class_facts c.requires.1 args.w (true→T (sym (c.is_kind.ensures args.b args.bodies.now)
    ∙ c.if-not-is_kind.false))).fields in let e = c.field_count.ensures in let l = natural_most _ _ (natural_some _ _ c.natural.ensures c.in-Some.is) in (c.requires, omega arith)

pub overflow_cast-more : goal.overflow_cast-more
overflow_cast-more c = let l = natural_most _ _ (natural_some _ _ c.natural.ensures c.in-Some.is) in omega arith

pub overflow_add-more : goal.overflow_add-more
overflow_add-more c = let l = natural_most _ _ (natural_some _ _ c.natural.ensures c.in-Some.is) in omega arith

pub make-requires-in-2 : goal.make-requires-in-2
make-requires-in-2 c = let l = natural_most _ _ (natural_some _ _ c.natural.ensures c.in-Some.is) in (c.requires, omega arith)

pub returns-in-1 : goal.returns-in-1
returns-in-1 c =
    does_same (with_words _ _ _ (sym (c.is_kind.ensures c.args.b c.args.bodies.now) ∙ c.if-not-is_kind.false) _
    (natural_some _ _ c.natural.ensures c.in-Some.is) c.form_of.ensures c.in-1.is c.field_count.ensures) c.make.ensures

pub returns-in-2 : goal.returns-in-2
returns-in-2 c =
    does_same (with_bytes _ _ _ (sym (c.is_kind.ensures c.args.b c.args.bodies.now) ∙ c.if-not-is_kind.false) _
    (natural_some _ _ c.natural.ensures c.in-Some.is) c.form_of.ensures c.in-2.is) c.make-in-2.ensures

pub returns-in_default-form_of : goal.returns-in_default-form_of
returns-in_default-form_of c =
    let args = c.args in
    does_none c.requires.1 c.failed-in_default-form_of.ensures
    (with_other _ _ _ (sym (c.is_kind.ensures args.b args.bodies.now) ∙ c.if-not-is_kind.false) _ (natural_some _ _ c.natural.ensures c.in-Some.is) c.form_of.ensures (λ e. omega arith) (λ e. omega arith))
