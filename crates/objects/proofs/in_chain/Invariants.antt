-- What holds from here holds from the start.
use Rattle.std.proofs.Common.{◌≡◌, ◌-◌}
use lib.Dec.{T}
use Rattle.model.specs.Limits.{class_kind, longest_chain}
use Rattle.model.specs.Objects.{objects_at, is_nil_or}
use Rattle.model.specs.Lookup.{in_chain_within, in_chain}
use Rattle.objects.proofs.in_chain.Given as goal

abbrev pub invariant-loop-i : goal.invariant-loop-i
invariant-loop-i l = T (is_nil_or (objects_at l.memory.n l.memory.b l.memory.contents.now l.memory.bodies.now) class_kind l.c.0)
    × (in_chain_within (longest_chain - l.i) (objects_at l.memory.n l.memory.b l.memory.contents.now l.memory.bodies.now) l.a.0 l.c.0 ≡ in_chain (objects_at l.memory.n l.memory.b l.memory.contents.now l.memory.bodies.now) l.a.0 l.initial.c.0)
