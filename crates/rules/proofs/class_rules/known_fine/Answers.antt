-- `known_fine` is `known_object_rules`.
use Rattle.std.proofs.Common.{rules, tests}
use mathlib.Core.Bool.{◌&&◌}
use mathlib.Core.Path.{◌≡◌, sym, ◌∙◌}
use native.Mathlib.Omega.{arith}
use Rattle.bytecode.proofs.TestLaws.{true→T}
use Rattle.model.specs.Objects.{objects_at}
use Rattle.readers.proofs.InsideLaws.{class_inside}
use Rattle.rules.specs.Shape.{kinds_fine, selectors_fine}
use Rattle.rules.proofs.ClassLaws.{F, M, known_split, integer_class_kind}
use Rattle.rules.proofs.class_rules.known_fine.Goals as goal

pub word_of-requires : goal.word_of-requires
word_of-requires c =
    let a = c.args in
    let o = objects_at a.memory.now.n a.memory.now.b a.memory.now.contents.now a.memory.now.bodies.now in
    let p = c.requires.0 in
    class_inside p (true→T (integer_class_kind o p.known (sym c.known_kinds.ensures ∙ c.if-known_kinds.true))) (omega arith)

pub returns-then-selectors_fine : goal.returns-then-selectors_fine
returns-then-selectors_fine c =
    let a = c.args in
    let o = objects_at a.memory.now.n a.memory.now.b a.memory.now.contents.now a.memory.now.bodies.now in
    let s : c.messages_fine.result ≡ (kinds_fine o && (F a.edition o && (selectors_fine o && M a.edition o))) = search (tests, rules) in
    s ∙ sym (known_split a.edition o)

pub returns-else-selectors_fine : goal.returns-else-selectors_fine
returns-else-selectors_fine c =
    let a = c.args in
    let o = objects_at a.memory.now.n a.memory.now.b a.memory.now.contents.now a.memory.now.bodies.now in
    let s : c.if-word_of-eq-OTHER.value ≡ (kinds_fine o && (F a.edition o && (selectors_fine o && M a.edition o))) = search (tests, rules) in
    s ∙ sym (known_split a.edition o)
