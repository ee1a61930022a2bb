use native.Mathlib.Omega.{arith}
use lib.ListN.{length-set}
use Rattle.cache.proofs.Caching.{entry_of, entry_filled, entry_there}
use Rattle.cache.proofs.fill.Goals as goal

pub returns-then-is_of : goal.returns-then-is_of
returns-then-is_of c = let h = entry_of _ _ _ _ c.is_of.ensures c.if-is_of.true in
    entry_there _ _ _ _ _ _ c.entry-at.ensures.0 c.requires.1 h.0 h.1

pub bounds-cache-at-2 : goal.bounds-cache-at-2
bounds-cache-at-2 c = simp length-set (omega arith)

pub bounds-cache-at-3 : goal.bounds-cache-at-3
bounds-cache-at-3 c = simp length-set (omega arith)

pub overflow_cast-cache : goal.overflow_cast-cache
overflow_cast-cache c = omega (arith, c.requires.2)

pub bounds-cache-at-4 : goal.bounds-cache-at-4
bounds-cache-at-4 c = simp length-set (omega arith)

pub returns : goal.returns
returns c = entry_filled _ _ _ _ _ _ c.entry-at.ensures.0
