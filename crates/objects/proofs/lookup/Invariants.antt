-- What is found and read from here, with what was read before, is what is found and read from the start.
use Rattle.std.proofs.Common.{◌-◌}
use Rattle.model.specs.Limits.{longest_chain}
use Rattle.model.specs.Objects.{objects_at}
use Rattle.objects.proofs.Chains.{LookupAt}
use Rattle.objects.proofs.lookup.Given as goal

abbrev pub invariant-loop-read : goal.invariant-loop-read
invariant-loop-read l = LookupAt (objects_at l.memory.n l.memory.b l.memory.contents.now l.memory.bodies.now) l.s l.initial.c.0 (longest_chain - l.read) l.pairs l.c.0
