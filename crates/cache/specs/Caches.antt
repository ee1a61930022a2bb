-- What the functions of the cache ask of the buffers.
use Rattle.std.specs.Prelude.{ℕ, ◌+◌, ◌≤◌, ◌≡◌, List, T, length, get_or}
use Rattle.model.specs.Limits.{cache_words, class_kind}
use Rattle.model.specs.Objects.{Objects, objects_at, is_nil_or}
use Rattle.model.specs.Lookup.{lookup, dictionaries_read}
use Rattle.model.specs.Rules.{IsRight}
use Rattle.plain.specs.Cache.{cache_entry_of, cache_place, cache_fine}
use Rattle.cache.specs.declared.Lookup.{Lookup}

-- A cache of the lookups of these objects
pub record Caches (n b : ℕ) (contents bodies cache : List ℕ) : Type 0 where
  pub long : length cache ≡ cache_words
  pub fine : T (cache_fine (objects_at n b contents bodies) cache)

-- A lookup that can be asked for
pub record Asks (n b : ℕ) (contents bodies cache : List ℕ) (selector class : ℕ) : Type 0 where
  pub right : IsRight (objects_at n b contents bodies)
  pub starts : T (is_nil_or (objects_at n b contents bodies) class_kind class)
  pub caches : Caches n b contents bodies cache
  pub named : 1 ≤ selector

-- What a lookup comes to, by the cache or not
pub record LookupIs (o : Objects) (selector class : ℕ) (r : Lookup) : Type 0 where
  pub finds : r.found ≡ lookup o selector class
  pub reads : r.dictionaries ≡ dictionaries_read o selector class

-- Where the entry of a selector and a class has both, it has this method and this number of dictionaries.
pub record Kept (cache : List ℕ) (selector class method dictionaries : ℕ) : Type 0 where
  pub held : let at = cache_place (cache_entry_of selector class) in
      get_or cache at 0 ≡ selector → get_or cache (at + 1) 0 ≡ class → (get_or cache (at + 2) 0 ≡ method) × (get_or cache (at + 3) 0 ≡ dictionaries)
