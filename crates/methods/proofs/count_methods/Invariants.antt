use mathlib.Core.Path.{◌≡◌}
use lib.ListN.{length}
use Rattle.model.specs.Objects.{objects_at}
use Rattle.methods.specs.Counts.{Counting}
use Rattle.methods.proofs.count_methods.Given as goal

abbrev pub invariant-loop-k : goal.invariant-loop-k
invariant-loop-k l = (length l.counts ≡ length l.initial.counts) × Counting (objects_at l.memory.n l.memory.b l.memory.contents.now l.memory.bodies.now) l.counts l.k 0
