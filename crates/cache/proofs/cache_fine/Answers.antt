use Rattle.std.proofs.Common.{not, ap, arith}
use Rattle.model.specs.Objects.{objects_at}
use Rattle.cache.proofs.Entries.{cache_no, cache_all}
use Rattle.cache.proofs.cache_fine.Goals as goal

pub returns-then-not-cached_right : goal.returns-then-not-cached_right
returns-then-not-cached_right c = let a = c.args in
    cache_no (objects_at a.memory.now.n a.memory.now.b a.memory.now.contents.now a.memory.now.bodies.now) a.cache.now c.loop-i.i _ (omega arith) c.cached_right.ensures (ap not c.if-not-cached_right.true)

pub returns : goal.returns
returns c = let a = c.args in cache_all (objects_at a.memory.now.n a.memory.now.b a.memory.now.contents.now a.memory.now.bodies.now) a.cache.now c.loop-i.i c.loop-i-test.false c.loop-i.invariant
