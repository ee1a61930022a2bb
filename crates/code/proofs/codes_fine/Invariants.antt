use mathlib.Core.Path.{◌≡◌}
use lib.ListN.{length}
use Rattle.model.specs.Objects.{objects_at}
use Rattle.code.proofs.PassLaws.{Going}
use Rattle.code.proofs.codes_fine.Given as goal

abbrev pub invariant-loop-k : goal.invariant-loop-k
invariant-loop-k l = Going l.edition (objects_at l.memory.n l.memory.b l.memory.contents.now l.memory.bodies.now) l.k l.notes × (length l.notes ≡ length l.initial.notes) ×
    (length l.pending ≡ length l.initial.pending)
