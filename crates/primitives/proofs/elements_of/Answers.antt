-- The tests of `is_indexable`, one by one.
use native.Mathlib.Omega.{arith}
use mathlib.Core.Path.{ap, ap₂, ◌∙◌}
use Prim.Native.Nat.{ℕ, ◌-◌}
use Rattle.model.specs.Objects.{objects_at, field_count, form}
use Rattle.objects.proofs.Buffers.{contents_room}
use Rattle.primitives.proofs.Indexing.{kind_some, kind_none, elements_odd, elements_large, elements_other, elements_some, receiver_listed, receiver_class, named_first}
use Rattle.primitives.proofs.elements_of.Goals as goal

pub returns-then-w-eq1 : goal.returns-then-w-eq1
returns-then-w-eq1 c = elements_odd _ _ c.if-w-eq1.true

pub class_of-class-requires : goal.class_of-class-requires
class_of-class-requires c =
    let args = c.args in
    (c.requires.valid, contents_room args.memory.now.n args.memory.now.b args.memory.now.contents.now args.memory.now.bodies.now c.requires.right.1)

pub form_of-requires : goal.form_of-requires
form_of-requires c = receiver_class c.requires (c.class_of-class.ensures _ _)

pub returns-in_err-by : goal.returns-in_err-by
returns-in_err-by c =
    let args = c.args in
    let o = objects_at args.memory.now.n args.memory.now.b args.memory.now.contents.now args.memory.now.bodies.now in
    c.from_residual.ensures ∙ elements_other o _ (c.form_of.ensures ∙ ap (form o) (c.class_of-class.ensures args.memory.now.b args.memory.now.bodies.now)) (kind_none _ c.element_kind.ensures c.in_err-by.was)

pub field_count-start-requires : goal.field_count-start-requires
field_count-start-requires c =
    receiver_class c.requires (c.class_of-class.ensures _ _)

pub size-size-requires : goal.size-size-requires
size-size-requires c =
    receiver_listed c.requires c.if-w-eq1.false

pub overflow_sub-count : goal.overflow_sub-count
overflow_sub-count c =
    let args = c.args in
    let o = objects_at args.memory.now.n args.memory.now.b args.memory.now.contents.now args.memory.now.bodies.now in
    let l = named_first c.requires c.if-w-eq1.false
    (c.form_of.ensures ∙ ap (form o) (c.class_of-class.ensures args.memory.now.b args.memory.now.bodies.now))
    (kind_some _ c.element_kind.ensures c.in_ok-by.was).0
    (c.field_count-start.ensures ∙ ap (field_count o) (c.class_of-class.ensures args.memory.now.b args.memory.now.bodies.now)) c.size-size.ensures in
    omega arith

pub returns-then-count-gt-MOST_ELEMENTS : goal.returns-then-count-gt-MOST_ELEMENTS
returns-then-count-gt-MOST_ELEMENTS c =
    let args = c.args in
    let o = objects_at args.memory.now.n args.memory.now.b args.memory.now.contents.now args.memory.now.bodies.now in
    elements_large o _ (ap₂ (λ (x y : ℕ). x - y) c.size-size.ensures
    (c.field_count-start.ensures ∙ ap (field_count o) (c.class_of-class.ensures args.memory.now.b args.memory.now.bodies.now))) c.if-count-gt-MOST_ELEMENTS.true

pub returns-else-count-gt-MOST_ELEMENTS : goal.returns-else-count-gt-MOST_ELEMENTS
returns-else-count-gt-MOST_ELEMENTS c =
    let args = c.args in
    let o = objects_at args.memory.now.n args.memory.now.b args.memory.now.contents.now args.memory.now.bodies.now in
    let start = c.field_count-start.ensures ∙ ap (field_count o) (c.class_of-class.ensures args.memory.now.b args.memory.now.bodies.now) in
    elements_some o _ (c.form_of.ensures ∙ ap (form o) (c.class_of-class.ensures args.memory.now.b args.memory.now.bodies.now)) c.if-w-eq1.false
    (kind_some _ c.element_kind.ensures c.in_ok-by.was) start (ap₂ (λ (x y : ℕ). x - y) c.size-size.ensures start) c.if-count-gt-MOST_ELEMENTS.false
