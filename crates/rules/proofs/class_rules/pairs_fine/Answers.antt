-- `pairs_fine` tests every pair.
use Rattle.std.proofs.Common.{rules, tests}
use mathlib.Core.Path.{refl, ◌∙◌}
use Rattle.std.proofs.lemmas.Iterator.{YieldsList-from_range}
use Rattle.std.proofs.lemmas.Iterator.Search.{all_from_yields_List}
use Rattle.model.specs.Objects.{objects_at}
use Rattle.model.specs.Rules.{pair_fine}
use Rattle.readers.proofs.Ranges.{below_list}
use Rattle.rules.proofs.class_rules.pairs_fine.Goals as goal

pub returns : goal.returns
returns c =
    let a = c.args in
    let o = objects_at a.memory.now.n a.memory.now.b a.memory.now.contents.now a.memory.now.bodies.now in
    all_from_yields_List (pair_fine o a.d) _ _ c.all.result c.all.ensures.ran (YieldsList-from_range 0 a.count a.count refl (search rules))
    (λ x b q k. search (rules, tests))
    ∙ below_list a.count (pair_fine o a.d)
