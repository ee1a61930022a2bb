use mathlib.Core.Path.{◌≡◌}
use Prim.Native.Nat.{◌/◌}
use lib.ListN.{length}
use Rattle.model.specs.Objects.{objects_at}
use Rattle.methods.specs.Counts.{Counting}
use Rattle.methods.proofs.count_class.Given as goal

abbrev pub invariant-loop-i : goal.invariant-loop-i
invariant-loop-i l = (length l.counts ≡ length l.initial.counts) × Counting (objects_at l.memory.n l.memory.b l.memory.contents.now l.memory.bodies.now) l.counts (l.class / 2) l.i
