-- `ends` is `ends_within` 24: before each turn the turns left from the word decide.
use Prim.Native.Nat.{◌-◌}
use mathlib.Core.Path.{◌≡◌}
use Rattle.model.specs.Limits.{longest_chain}
use Rattle.model.specs.Objects.{objects_at}
use Rattle.model.specs.Lookup.{ends_within}
use Rattle.rules.proofs.class_rules.ends.Given as goal

abbrev pub invariant-loop : goal.invariant-loop
invariant-loop l =
    ends_within longest_chain (objects_at l.memory.n l.memory.b l.memory.contents.now l.memory.bodies.now) l.c ≡ ends_within (longest_chain - l.counter) (objects_at l.memory.n l.memory.b l.memory.contents.now l.memory.bodies.now) l.at
