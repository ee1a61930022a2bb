-- An entry of the cache, by the tests of the code.
use Prim.Native.Nat.{ℕ, ◌≤◌, ◌<◌}
use mathlib.Core.Path.{◌≡◌, sym, ap, ap₂, ◌∙◌}
use mathlib.Core.Bool.{Bool, true, false, not, ◌&&◌}
use mathlib.Core.List.{List}
use borrow.Author.Tests.{eq-eqb, ne_eqb, not-true}
use lib.Dec.{eqb}
use Rattle.model.specs.declared.Pointer.{Pointer}
use Rattle.std.specs.Prelude.{Option, Some, None}
use Rattle.model.specs.Limits.{class_kind, cache_entries}
use Rattle.model.specs.Objects.{Objects, is_kind}
use Rattle.model.specs.Lookup.{lookup, dictionaries_read}
use Rattle.model.proofs.LookupLaws.{lookup_none}
use Rattle.readers.proofs.Loops.{Before, below_all, below_no}
use Rattle.plain.specs.Cache.{finds, empty_or, cached_right, cached_right_at, cache_fine}

module _ (o : Objects) (s c m k : ℕ) (e : Bool) (p : e ≡ (eqb s 0 && (eqb c 0 && (eqb m 0 && eqb k 0)))) where
  pub entry_empty : e ≡ true → true ≡ cached_right o s c m k
  unfolding cached_right
  entry_empty q = ap (λ (x : Bool). empty_or x (finds (lookup o s c) m && eqb k (dictionaries_read o s c))) (sym q ∙ p)

  entry_held : (f : Option Pointer) → e ≡ false → f ≡ lookup o s c → (finds f m && eqb k (dictionaries_read o s c)) ≡ cached_right o s c m k
  unfolding cached_right
  entry_held f q l = ap₂ (λ (x : Bool) (y : Option Pointer). empty_or x (finds y m && eqb k (dictionaries_read o s c))) (sym q ∙ p) l

  pub entry_other : (x : Bool) → e ≡ false → x ≡ is_kind o class_kind c → not x ≡ true → false ≡ cached_right o s c m k
  entry_other x q h r = entry_held None q (sym (lookup_none o s c (sym h ∙ not-true x r)))

  module _ {f : Option Pointer} (q : e ≡ false) (l : f ≡ lookup o s c) where
    pub entry_nothing : f ≡ None → false ≡ cached_right o s c m k
    entry_nothing h = entry_held None q (sym h ∙ l)

    -- of another method; or of this one, which leaves the number
    pub entry_wrong : {h : Pointer} → f ≡ Some h → (h.0 ≡ m → ⊥) → false ≡ cached_right o s c m k
    entry_wrong {h = h} g d = ap (λ (x : Bool). x && eqb k (dictionaries_read o s c)) (sym (ne_eqb h.0 m d)) ∙ entry_held (Some h) q (sym g ∙ l)

    pub entry_found : {h : Pointer} {d : ℕ} → f ≡ Some h → h.0 ≡ m → d ≡ dictionaries_read o s c → eqb k d ≡ cached_right o s c m k
    entry_found {h = h} g a b =
        ap (eqb k) b ∙ ap (λ (x : Bool). x && eqb k (dictionaries_read o s c)) (sym (eq-eqb h.0 m a)) ∙ entry_held (Some h) q (sym g ∙ l)

-- ---- all entries

pub cache_no : (o : Objects) (cache : List ℕ) (i : ℕ) (x : Bool) → i < cache_entries → x ≡ cached_right_at o cache i → not x ≡ true → false ≡ cache_fine o cache
unfolding cache_fine
cache_no o cache i x h e q = sym (below_no cache_entries (cached_right_at o cache) i h (sym e ∙ not-true x q))

pub cache_all : (o : Objects) (cache : List ℕ) (i : ℕ) → cache_entries ≤ i → Before (cached_right_at o cache) i → true ≡ cache_fine o cache
unfolding cache_fine
cache_all o cache i h e = sym (below_all cache_entries i (cached_right_at o cache) h e)
