-- `classes` is rule 6: the known objects, then all.
use Rattle.std.proofs.Common.{rules, tests}
use mathlib.Core.Bool.{◌&&◌}
use mathlib.Core.Path.{◌≡◌, sym, ◌∙◌}
use Rattle.bytecode.specs.Test.{up_to, all_of}
use Rattle.model.specs.Objects.{objects_at}
use Rattle.model.specs.Rules.{known_object_rules}
use Rattle.rules.specs.Shape.{shape_fine}
use Rattle.rules.proofs.ClassLaws.{shaped}
use Rattle.rules.proofs.classes.Goals as goal

pub returns-then-known_fine : goal.returns-then-known_fine
returns-then-known_fine c =
    let a = c.args in
    let o = objects_at a.memory.now.n a.memory.now.b a.memory.now.contents.now a.memory.now.bodies.now in
    let s : c.shapes.result ≡ (all_of (known_object_rules a.edition o) && up_to o.n (shape_fine a.edition o)) = search (tests, rules) in
    s ∙ sym (shaped a.edition o)

pub returns-else-known_fine : goal.returns-else-known_fine
returns-else-known_fine c =
    let a = c.args in
    let o = objects_at a.memory.now.n a.memory.now.b a.memory.now.contents.now a.memory.now.bodies.now in
    let s : c.known_fine.result ≡ (all_of (known_object_rules a.edition o) && up_to o.n (shape_fine a.edition o)) = search (tests, rules) in
    s ∙ sym (shaped a.edition o)
