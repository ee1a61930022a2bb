-- `shapes` tests every object.
use Rattle.std.proofs.Common.{rules, tests}
use mathlib.Core.Path.{◌∙◌}
use Rattle.std.proofs.lemmas.Iterator.Search.{all_from_yields_List}
use Rattle.model.specs.Objects.{objects_at}
use Rattle.readers.proofs.Ranges.{from_one, up_list}
use Rattle.rules.specs.Shape.{shape_fine}
use Rattle.rules.proofs.class_rules.shapes.Goals as goal

pub returns : goal.returns
returns c =
    let a = c.args in
    let o = objects_at a.memory.now.n a.memory.now.b a.memory.now.contents.now a.memory.now.bodies.now in
    all_from_yields_List (shape_fine a.edition o) _ _ c.all.result c.all.ensures.ran (from_one a.memory.now.n c.new.ensures.start c.new.ensures.end c.new.ensures.exhausted)
    (λ x b q k. search (rules, tests))
    ∙ up_list a.memory.now.n (shape_fine a.edition o)
