use Prim.Native.Nat.{ℕ}
use mathlib.Core.Path.{◌≡◌}
use Rattle.model.specs.Image.{accepted}
use Rattle.plain.specs.Check.{check}
use Rattle.runs.specs.Ends.{reach_in, dictionaries_in, start_of}
use Rattle.runs.proofs.Looping.{Loop}
use Rattle.runs.proofs.stretch.Given as goal

abbrev pub invariant-loop-left : goal.invariant-loop-left
invariant-loop-left l =
    (receiver selector : ℕ) → check (start_of l.edition receiver selector l.n l.b l.top l.initial.contents l.initial.bodies l.initial.stack l.initial.cache) ≡ accepted
    → Loop (start_of l.edition receiver selector l.n l.b l.top l.initial.contents l.initial.bodies l.initial.stack l.initial.cache) l.grant l.edition receiver selector l.objects l.words l.active l.contents l.bodies l.stack l.cache l.left (reach_in l.tally) (dictionaries_in l.tally)

abbrev pub decreases-loop-left : goal.decreases-loop-left
decreases-loop-left l = l.left
