-- Every entry before i passed.
use Rattle.model.specs.Objects.{objects_at}
use Rattle.plain.specs.Cache.{cached_right_at}
use Rattle.readers.proofs.Loops.{Before}
use Rattle.cache.proofs.cache_fine.Given as goal

abbrev pub invariant-loop-i : goal.invariant-loop-i
invariant-loop-i l = Before (cached_right_at (objects_at l.memory.n l.memory.b l.memory.contents.now l.memory.bodies.now) l.cache) l.i
