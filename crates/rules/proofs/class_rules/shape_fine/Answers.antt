-- `shape_fine` is `shape_fine`.
use Rattle.std.proofs.Common.{rules, tests}
use mathlib.Core.Path.{sym, ◌∙◌}
use Rattle.model.specs.Objects.{objects_at}
use Rattle.readers.proofs.Names.{names_kind}
use Rattle.rules.specs.Shape.{shape_fine}
use Rattle.rules.proofs.class_rules.shape_fine.Goals as goal

pub class_fine-requires : goal.class_fine-requires
class_fine-requires c =
    let a = c.args in
    let o = objects_at a.memory.now.n a.memory.now.b a.memory.now.contents.now a.memory.now.bodies.now in
    let p = c.requires in
    (p.0, names_kind o a.k 2 p.1.0 p.1.1 (sym c.kind.ensures ∙ c.if-kind-ne-CLASS.false))

pub returns-then-kind-ne-CLASS : goal.returns-then-kind-ne-CLASS
unfolding shape_fine
returns-then-kind-ne-CLASS c = search (tests, rules)

pub returns-else-kind-ne-CLASS : goal.returns-else-kind-ne-CLASS
unfolding shape_fine
returns-else-kind-ne-CLASS c = search (tests, rules)

pub returns-else-entry_fine : goal.returns-else-entry_fine
unfolding shape_fine
returns-else-entry_fine c = search (tests, rules)
