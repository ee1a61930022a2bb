-- `chains` is rule 14: it tests every class.
use Rattle.std.proofs.Common.{rules, tests}
use mathlib.Core.Path.{◌∙◌}
use Rattle.std.proofs.lemmas.Iterator.Search.{all_from_yields_List}
use Rattle.model.specs.Objects.{objects_at}
use Rattle.model.specs.Rules.{chain_fine, rule14}
use Rattle.readers.proofs.Ranges.{from_one, up_list}
use Rattle.rules.proofs.chains.Goals as goal

pub returns : goal.returns
unfolding rule14
returns c =
    let a = c.args in
    let o = objects_at a.memory.now.n a.memory.now.b a.memory.now.contents.now a.memory.now.bodies.now in
    all_from_yields_List (chain_fine o) _ _ c.all.result c.all.ensures.ran (from_one a.memory.now.n c.new.ensures.start c.new.ensures.end c.new.ensures.exhausted)
    (λ x b q k. search (rules, tests))
    ∙ up_list a.memory.now.n (chain_fine o)
