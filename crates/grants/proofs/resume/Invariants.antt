use Prim.Native.Nat.{ℕ}
use Rattle.plain.specs.Flat.{Flat}
use Rattle.grants.specs.Grants.{FailsAt}
use Rattle.grants.proofs.resume.Given as goal

abbrev pub invariant-loop-e : goal.invariant-loop-e
invariant-loop-e l =
    (start : Flat) (receiver selector : ℕ) → FailsAt start l.grant l.edition receiver selector l.initial.contents l.initial.bodies l.initial.stack l.initial.cache l.initial.failed
    → FailsAt start l.grant l.edition receiver selector l.contents l.bodies l.stack l.cache l.failed

abbrev pub decreases-loop-e : goal.decreases-loop-e
decreases-loop-e l = l.failed.left
