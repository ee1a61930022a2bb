use Rattle.std.proofs.Common.{rules, tests}
use native.Mathlib.Omega.{arith}
use Rattle.model.specs.Objects.{objects_at}
use Rattle.readers.proofs.InsideLaws.{method_inside}
use Rattle.methods.proofs.ShapeLaws.{extension_word}
use Rattle.methods.proofs.extension_fine.Goals as goal

pub word_of-w-requires : goal.word_of-w-requires
word_of-w-requires c =
    let p = c.requires in
    method_inside p.0.laid _ p.0.is_method p.0.holds (omega arith)

pub returns-then-w-eq1 : goal.returns-then-w-eq1
returns-then-w-eq1 c =
    let a = c.args in
    let o = objects_at a.memory.now.n a.memory.now.b a.memory.now.contents.now a.memory.now.bodies.now in
    let x = extension_word o a.m c.requires.1 c.if-literals-lt2.false c.word_of-w.ensures in
    search (tests, rules)

pub returns-else-w-eq1 : goal.returns-else-w-eq1
returns-else-w-eq1 c =
    let a = c.args in
    let o = objects_at a.memory.now.n a.memory.now.b a.memory.now.contents.now a.memory.now.bodies.now in
    let x = extension_word o a.m c.requires.1 c.if-literals-lt2.false c.word_of-w.ensures in
    search (tests, rules)
