use Prim.Native.Nat.{◌+◌}
use mathlib.Core.Path.{◌≡◌}
use lib.ListN.{length}
use Rattle.model.specs.Objects.{objects_at}
use Rattle.model.proofs.Marks.{zeros}
use Rattle.flow.specs.Linked.{linked}
use Rattle.flow.specs.Walk.{Static, WalkingAt}
use Rattle.code.proofs.drain.Given as goal

abbrev pub invariant-loop-next : goal.invariant-loop-next
invariant-loop-next l =
    Static l.table l.limits l.words l.room l.notes l.pending
    × WalkingAt l.limits l.words (length l.notes) l.room (linked (objects_at l.memory.n l.memory.b l.memory.contents.now l.memory.bodies.now) l.m) l.notes l.pending l.spot.waiting l.spot.at l.spot.depth
    × (length l.notes ≡ length l.initial.notes)
    × (length l.pending ≡ length l.initial.pending)

abbrev pub decreases-loop-next : goal.decreases-loop-next
decreases-loop-next l =
    l.spot.waiting + zeros l.notes
