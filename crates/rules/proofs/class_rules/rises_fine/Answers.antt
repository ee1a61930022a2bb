-- `rises_fine` is `rises_fine`.
use Rattle.std.proofs.Common.{rules, tests}
use native.Mathlib.Omega.{arith}
use Rattle.bytecode.proofs.TestLaws.{true→T}
use Rattle.model.specs.Objects.{objects_at}
use Rattle.readers.proofs.InsideLaws.{class_inside}
use Rattle.rules.specs.Shape.{rises_fine}
use Rattle.rules.proofs.ClassLaws.{nil_or_class}
use Rattle.rules.proofs.class_rules.rises_fine.Goals as goal

pub word_of-fields-requires : goal.word_of-fields-requires
word_of-fields-requires c = let p = c.requires in class_inside p.0 (true→T p.1.0) (omega arith)

pub word_of-requires : goal.word_of-requires
word_of-requires c =
    let a = c.args in
    let o = objects_at a.memory.now.n a.memory.now.b a.memory.now.contents.now a.memory.now.bodies.now in
    let p = c.requires in
    class_inside p.0 (true→T (nil_or_class o a.s p.1.1.1 c.if-s-eq-NIL.false)) (omega arith)

pub returns-then-s-eq-NIL : goal.returns-then-s-eq-NIL
unfolding rises_fine
returns-then-s-eq-NIL c = search (tests, rules)

pub returns-else-s-eq-NIL : goal.returns-else-s-eq-NIL
unfolding rises_fine
returns-else-s-eq-NIL c = search (tests, rules)
