-- `dictionary_fine` is `dictionary_fine`.
use Rattle.std.proofs.Common.{rules, tests}
use Rattle.model.specs.Objects.{objects_at}
use Rattle.model.specs.Rules.{dictionary_fine}
use Rattle.readers.proofs.Names.{is_named}
use Rattle.rules.proofs.class_rules.dictionary_fine.Goals as goal

pub size-words-requires : goal.size-words-requires
size-words-requires c =
    let a = c.args in
    let o = objects_at a.memory.now.n a.memory.now.b a.memory.now.contents.now a.memory.now.bodies.now in
    let p = c.requires in
    let q = is_named o 3 a.d p.1 in
    record { entries = p.0.entries; least = q.least; most = q.most }

pub returns-then-words-eq0 : goal.returns-then-words-eq0
unfolding dictionary_fine
returns-then-words-eq0 c = search (tests, rules)

pub returns-else-words-eq0 : goal.returns-else-words-eq0
unfolding dictionary_fine
returns-else-words-eq0 c = search (tests, rules)
