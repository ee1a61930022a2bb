use mathlib.Core.Path.{◌≡◌}
use Prim.Native.Nat.{◌≤◌}
use Rattle.calls.specs.Plays.{answer_room}
use Rattle.calls.proofs.Playing.{Inv}
use Rattle.machine.specs.State.{state}
use Rattle.machine.proofs.Registers.play_checked.Given as goal

abbrev pub invariant-loop-made : goal.invariant-loop-made
invariant-loop-made l =
    ((l.room ≡ answer_room l.initial.answers) × (l.made ≤ l.room)) × Inv l.calls l.initial.answers (state l.initial.registers l.initial.contents l.initial.bodies l.initial.stack l.initial.cache) (state l.registers l.contents l.bodies l.stack l.cache) l.answers l.i l.made
