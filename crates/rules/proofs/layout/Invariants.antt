-- `layout` is rule 4. Before each turn `from` is where the next body has to start.
use mathlib.Core.Path.{◌≡◌}
use Rattle.bytecode.specs.Test.{all_of}
use Rattle.model.specs.Objects.{objects_at}
use Rattle.model.specs.Rules.{layout_rules}
use Rattle.rules.specs.Lent.{start_of}
use Rattle.readers.proofs.Loops.{UpBefore}
use Rattle.rules.proofs.layout.Given as goal

abbrev pub invariant-loop-k : goal.invariant-loop-k
invariant-loop-k l =
    let o = objects_at l.memory.n l.memory.b l.memory.contents.now l.memory.bodies.now in
    (l.from ≡ start_of o l.k) × UpBefore (λ j. all_of (layout_rules l.edition o j)) l.k
