-- `messages_fine` is `message_object_rules`, where the edition has them.
use Rattle.std.proofs.Common.{rules, tests}
use mathlib.Core.Bool.{◌&&◌}
use mathlib.Core.Path.{◌≡◌, sym, ◌∙◌}
use native.Mathlib.Omega.{arith}
use lib.Dec.{eqb}
use Rattle.bytecode.proofs.TestLaws.{true→T}
use Rattle.model.specs.Limits.{bytes_kind, failure_selector_object, message_class_object, array_class_object, message_fields, fixed_form, indexed_form}
use Rattle.model.specs.Objects.{objects_at, kind}
use Rattle.model.proofs.Facts.{eight_least}
use Rattle.rules.specs.Shape.{class_is}
use Rattle.rules.proofs.ClassLaws.{with_messages}
use Rattle.rules.proofs.class_rules.messages_fine.Goals as goal

pub kind-requires : goal.kind-requires
kind-requires c =
    let p = c.requires in
    let e = eight_least c.args.edition (true→T (sym c.has_messages.ensures ∙ c.if-not-has_messages.false)) in
    let l = p.1 in
    record { entries = p.0.entries; least = omega arith; most = omega arith }

pub class_is-requires : goal.class_is-requires
class_is-requires c =
    let p = c.requires in
    let e = eight_least c.args.edition (true→T (sym c.has_messages.ensures ∙ c.if-not-has_messages.false)) in
    let l = p.1 in
    (p.0, omega arith, omega arith)

pub class_is-requires-then-class_is : goal.class_is-requires-then-class_is
class_is-requires-then-class_is c =
    let p = c.requires in
    let e = eight_least c.args.edition (true→T (sym c.has_messages.ensures ∙ c.if-not-has_messages.false)) in
    let l = p.1 in
    (p.0, omega arith, omega arith)

pub returns-then-class_is : goal.returns-then-class_is
returns-then-class_is c =
    let a = c.args in
    let o = objects_at a.memory.now.n a.memory.now.b a.memory.now.contents.now a.memory.now.bodies.now in
    let s : c.class_is-then-class_is.result ≡ (eqb (kind o failure_selector_object) bytes_kind && (class_is o message_class_object fixed_form message_fields && class_is o array_class_object indexed_form 0)) = search (tests, rules) in
    s ∙ sym (with_messages a.edition o (sym c.has_messages.ensures ∙ c.if-not-has_messages.false))

pub returns-else-class_is : goal.returns-else-class_is
returns-else-class_is c =
    let a = c.args in
    let o = objects_at a.memory.now.n a.memory.now.b a.memory.now.contents.now a.memory.now.bodies.now in
    let s : c.if-kind-eq-BYTES.value ≡ (eqb (kind o failure_selector_object) bytes_kind && (class_is o message_class_object fixed_form message_fields && class_is o array_class_object indexed_form 0)) = search (tests, rules) in
    s ∙ sym (with_messages a.edition o (sym c.has_messages.ensures ∙ c.if-not-has_messages.false))
