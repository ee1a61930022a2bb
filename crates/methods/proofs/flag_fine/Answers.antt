use Rattle.std.proofs.Common.{rules, tests}
use mathlib.Core.Bool.{true}
use mathlib.Core.Path.{◌≡◌}
use Rattle.bytecode.proofs.TestLaws.{true→T}
use Rattle.model.specs.Objects.{objects_at}
use Rattle.methods.specs.Passes.{primitive_rule, flag_rules}
use Rattle.methods.proofs.ShapeLaws.{primitive_two, count_here}
use Rattle.methods.proofs.flag_fine.Goals as goal

pub argument_count-requires : goal.argument_count-requires
argument_count-requires c =
    let a = c.args in
    let o = objects_at a.memory.now.n a.memory.now.b a.memory.now.contents.now a.memory.now.bodies.now in
    let t : primitive_rule o a.m ≡ true = search (tests, rules) in
    count_here c.requires.method (primitive_two _ a.m (true→T t))

pub returns-then-primitive_fine : goal.returns-then-primitive_fine
unfolding flag_rules
returns-then-primitive_fine c = search (tests, rules)

pub returns-else-primitive_fine : goal.returns-else-primitive_fine
unfolding flag_rules
returns-else-primitive_fine c = search (tests, rules)
