-- The cache of lookups (01, "Calls": "Cache", and "Check"; 02, M-105).
use Rattle.std.specs.Prelude.{ℕ, ◌+◌, ◌*◌, ◌/◌, ◌%◌, Bool, true, false, ◌&&◌, List, [], ◌∷◌, eqb, get_or, replicate, Option, Some, None}
use Rattle.std.proofs.lemmas.List.Edits.{sets}
use Rattle.std.specs.Int.Bits.{bit_and}
use Rattle.bytecode.specs.Test.{below}
use Rattle.model.specs.declared.Pointer.{Pointer}
use Rattle.model.specs.Limits.{cache_entries, cache_entry_words, cache_words}
use Rattle.model.specs.Objects.{Objects}
use Rattle.model.specs.Lookup.{lookup, dictionaries_read}
use Rattle.plain.specs.Step.{Looked, no_lookup, looked}

-- The entry of a selector and the class where the lookup starts
unfoldable pub cache_entry_of : ℕ → ℕ → ℕ
cache_entry_of s c = bit_and s c / 2 % cache_entries

-- The place of entry i
abbrev pub cache_place : ℕ → ℕ
cache_place i = cache_entry_words * i

-- Run writes selector, class, method and dictionaries of a lookup that missed and found. Where the entry already held them this writes what stands there.
unfoldable pub filled : List ℕ → Looked → List ℕ
filled cache no_lookup = cache
filled cache (looked s c m k) = sets cache (cache_place (cache_entry_of s c)) (s ∷ c ∷ m ∷ k ∷ [])

abbrev pub empty_cache : List ℕ
empty_cache = replicate cache_words 0

-- An entry is empty, or holds what plain lookup finds and how many dictionaries it reads.
abbrev pub finds : Option Pointer → ℕ → Bool
finds (Some k) m = eqb k.0 m
finds None m = false

abbrev pub empty_or : Bool → Bool → Bool
empty_or true b = true
empty_or false b = b

unfoldable pub cached_right : Objects → ℕ → ℕ → ℕ → ℕ → Bool
cached_right o s c m k = empty_or (eqb s 0 && (eqb c 0 && (eqb m 0 && eqb k 0))) (finds (lookup o s c) m && eqb k (dictionaries_read o s c))

abbrev pub cached_right_at : Objects → List ℕ → ℕ → Bool
cached_right_at o cache i =
    cached_right o (get_or cache (cache_place i) 0) (get_or cache (cache_place i + 1) 0) (get_or cache (cache_place i + 2) 0) (get_or cache (cache_place i + 3) 0)

unfoldable pub cache_fine : Objects → List ℕ → Bool
cache_fine o cache = below cache_entries (cached_right_at o cache)
