-- What the frames from here on say is what they say from the top.
use Rattle.model.specs.Objects.{objects_at}
use Rattle.checks.proofs.Walking.{Going}
use Rattle.checks.proofs.frames_fine.Given as goal

abbrev pub invariant-loop-base : goal.invariant-loop-base
invariant-loop-base l = Going l.edition (objects_at l.memory.n l.memory.b l.memory.contents.now l.memory.bodies.now) l.stack l.initial.base.0 l.base.0 l.uppermost

abbrev pub decreases-loop-base : goal.decreases-loop-base
decreases-loop-base l = l.base.0
