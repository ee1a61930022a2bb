-- `class_is` is `class_is`.
use Rattle.std.proofs.Common.{rules, tests}
use mathlib.Core.Path.{◌≡◌, sym, ◌∙◌}
use native.Mathlib.Omega.{arith}
use Rattle.bytecode.proofs.TestLaws.{true→T}
use Rattle.model.specs.Limits.{class_kind}
use Rattle.model.specs.Objects.{objects_at}
use Rattle.readers.proofs.InsideLaws.{class_inside}
use Rattle.readers.proofs.Names.{names_kind}
use Rattle.rules.specs.Shape.{class_is}
use Rattle.rules.proofs.class_rules.class_is.Goals as goal

pub word_of-requires : goal.word_of-requires
word_of-requires c =
    let a = c.args in
    let o = objects_at a.memory.now.n a.memory.now.b a.memory.now.contents.now a.memory.now.bodies.now in
    let p = c.requires in
    class_inside p.0 (true→T (names_kind o a.k class_kind p.1 p.2 (sym c.kind.ensures ∙ c.if-kind-eq-CLASS.true))) (omega arith)

pub word_of-requires-then-word_of-form : goal.word_of-requires-then-word_of-form
word_of-requires-then-word_of-form c =
    let a = c.args in
    let o = objects_at a.memory.now.n a.memory.now.b a.memory.now.contents.now a.memory.now.bodies.now in
    let p = c.requires in
    let k : c.kind.result ≡ class_kind = search (tests, rules) in
    class_inside p.0 (true→T (names_kind o a.k class_kind p.1 p.2 (sym c.kind.ensures ∙ k))) (omega arith)

pub returns-then-word_of-form : goal.returns-then-word_of-form
unfolding class_is
returns-then-word_of-form c = search (tests, rules)

pub returns-else-word_of-form : goal.returns-else-word_of-form
unfolding class_is
returns-else-word_of-form c = search (tests, rules)
