-- `object_layout` is `layout_rules` of an object, given where it has to start.
use Rattle.std.proofs.Common.{rules, tests}
use Rattle.model.specs.Objects.{objects_at}
use Rattle.model.specs.Rules.{layout_rules}
use Rattle.rules.proofs.Laid.{start_fine}
use Rattle.rules.proofs.object_layout.Goals as goal

pub returns-then-class_size : goal.returns-then-class_size
unfolding layout_rules
returns-then-class_size c =
    let a = c.args in
    let o = objects_at a.memory.now.n a.memory.now.b a.memory.now.contents.now a.memory.now.bodies.now in
    rw (start_fine o a.k) (search (tests, rules))

pub returns-else-class_size : goal.returns-else-class_size
unfolding layout_rules
returns-else-class_size c =
    let a = c.args in
    let o = objects_at a.memory.now.n a.memory.now.b a.memory.now.contents.now a.memory.now.bodies.now in
    rw (start_fine o a.k) (search (tests, rules))
