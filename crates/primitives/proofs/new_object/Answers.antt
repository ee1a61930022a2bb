-- The tests of `new`, then `make`.
use mathlib.Core.Path.{sym, ◌∙◌}
use native.Mathlib.Omega.{arith}
use Rattle.bytecode.proofs.TestLaws.{true→T}
use Rattle.model.proofs.Facts.{class_facts}
use Rattle.objects.proofs.Buffers.{contents_room}
use Rattle.primitives.proofs.Growing.{does_none, does_same, new_no_class, new_other, new_is}
use Rattle.primitives.proofs.new_object.Goals as goal

pub is_kind-requires : goal.is_kind-requires
is_kind-requires c =
    let args = c.args in
    contents_room args.n args.b args.contents.now args.bodies.now c.requires.1

pub returns-then-not-is_kind : goal.returns-then-not-is_kind
returns-then-not-is_kind c =
    let args = c.args in
    does_none c.requires.1 c.failed.ensures
    (new_no_class _ _ _ (sym (c.is_kind.ensures args.b args.bodies.now) ∙ c.if-not-is_kind.true))

pub form_of-form-requires : goal.form_of-form-requires
form_of-form-requires c =
    record { right = c.requires; kinds = true→T (sym (c.is_kind.ensures c.args.b c.args.bodies.now) ∙ c.if-not-is_kind.false) }

pub returns-then-form-ne-FIXED : goal.returns-then-form-ne-FIXED
returns-then-form-ne-FIXED c =
    let args = c.args in
    does_none c.requires.1 c.failed-then-form-ne-FIXED.ensures
    (new_other _ _ _ (sym (c.is_kind.ensures args.b args.bodies.now) ∙ c.if-not-is_kind.false) c.form_of-form.ensures c.if-form-ne-FIXED.true)

pub field_count-count-requires : goal.field_count-count-requires
field_count-count-requires c =
    record { right = c.requires; kinds = true→T (sym (c.is_kind.ensures c.args.b c.args.bodies.now) ∙ c.if-not-is_kind.false) }

pub overflow_cast-count : goal.overflow_cast-count
overflow_cast-count c =
    let args = c.args in
    let f = (class_facts c.requires.1 args.w (true→T (sym (c.is_kind.ensures args.b args.bodies.now)
    ∙ c.if-not-is_kind.false))).fields in let e = c.field_count-count.ensures in omega arith

pub make-requires : goal.make-requires
make-requires c =
    let args = c.args in
    let f = (class_facts c.requires.1 args.w (true→T (sym (c.is_kind.ensures args.b args.bodies.now)
    ∙ c.if-not-is_kind.false))).fields in let e = c.field_count-count.ensures in (c.requires, omega arith)

pub returns : goal.returns
returns c =
    does_same (new_is _ _ _ (sym (c.is_kind.ensures c.args.b c.args.bodies.now) ∙ c.if-not-is_kind.false)
    c.form_of-form.ensures c.if-form-ne-FIXED.false c.field_count-count.ensures) c.make.ensures
