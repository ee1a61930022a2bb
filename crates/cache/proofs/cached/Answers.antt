use Prim.Native.Nat.{◌+◌, ◌*◌}
use native.Mathlib.Omega.{arith}
use Rattle.cache.proofs.Caching.{entry_of, cached_found}
use Rattle.cache.proofs.cached.Goals as goal

pub overflow_cast-result : goal.overflow_cast-result
overflow_cast-result c = omega (arith, c.type_inv.cache (4 * c.entry-at.result + 3))

pub returns-then-is_of : goal.returns-then-is_of
returns-then-is_of c = let h = entry_of _ _ _ _ c.is_of.ensures c.if-is_of.true in
    let f = cached_found _ _ _ _ _ c.requires.caches.fine c.requires.named c.entry-at.ensures.1 h.0 h.1 in
    record { finds = f.0; reads = f.1 }

pub returns : goal.returns
returns c = record { finds = c.lookup-search.ensures.finds; reads = c.lookup-search.ensures.walks }
