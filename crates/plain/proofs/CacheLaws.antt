-- The cache stays right where lookups stay what they were, and where a lookup that found is filled in.
use Prim.Native.Nat.{ℕ, zero, suc, ◌+◌, ◌≤◌, ◌<◌}
use mathlib.Core.Path.{◌≡◌, refl, sym, ap, ap₂, ◌∙◌, subst}
use mathlib.Core.Bool.{Bool, true, false, ◌&&◌}
use mathlib.Core.Logic.{◌⊎◌, inl, inr}
use mathlib.Core.List.{List, [], ◌∷◌}
use native.Mathlib.Omega.{arith}
use native.Mathlib.Decide.{ℕ_discrete, dec_lt}
use lib.Dec.{T, eqb, eqb_refl}
use lib.ListN.{length, get_or, set, get_or-replicate, length-set}
use lib.Seq.{sets, length-sets, get_or-set_same, get_or-set_other}
use borrow.Author.Tests.{eq-eqb}
use Rattle.bytecode.proofs.TestLaws.{true→T, and_both, below_at, at_below}
use Rattle.std.specs.Prelude.{Option}
use Rattle.model.specs.declared.Pointer.{Pointer}
use Rattle.model.specs.Limits.{cache_entries, cache_entry_words, cache_words}
use Rattle.model.specs.Objects.{Objects}
use Rattle.model.specs.Lookup.{found, lookup, dictionaries_read}
use Rattle.plain.specs.Step.{Looked, no_lookup, looked}
use Rattle.plain.specs.Cache.{cache_entry_of, cache_place, filled, empty_cache, finds, empty_or, cached_right, cached_right_at, cache_fine}
use Rattle.plain.proofs.Preserve.{LookedRight}

-- a word of a list in which others were written
pub sets_other : (ws l : List ℕ) (i j : ℕ) → (j < i) ⊎ (i + length ws ≤ j) → get_or (sets l i ws) j 0 ≡ get_or l j 0
sets_other [] l i j h = refl
sets_other (w ∷ ws) l i j (inl h) = sets_other ws (set l i w) (suc i) j (inl (omega arith)) ∙ get_or-set_other l i j w 0 (λ e. omega arith)
sets_other (w ∷ ws) l i j (inr h) = sets_other ws (set l i w) (suc i) j (inr (omega arith)) ∙ get_or-set_other l i j w 0 (λ e. omega arith)

pub sets_at : (ws l : List ℕ) (i j : ℕ) → i + length ws ≤ length l → j < length ws → get_or (sets l i ws) (i + j) 0 ≡ get_or ws j 0
sets_at [] l i j h k = absurd (omega arith)
sets_at (w ∷ ws) l i zero h k =
    ap (λ (x : ℕ). get_or (sets (set l i w) (suc i) ws) x 0) (plus_zero i) ∙ sets_other ws (set l i w) (suc i) i (inl (omega arith)) ∙ get_or-set_same l i w 0 (omega arith)
  where
    plus_zero : (x : ℕ) → x + 0 ≡ x
    plus_zero x = omega arith
sets_at (w ∷ ws) l i (suc j) h k =
    ap (λ (x : ℕ). get_or (sets (set l i w) (suc i) ws) x 0) (plus_suc i j)
    ∙ sets_at ws (set l i w) (suc i) j (subst (λ (n : ℕ). suc i + length ws ≤ n) (sym (length-set l i w)) (omega arith)) (omega arith)
  where
    plus_suc : (x y : ℕ) → x + suc y ≡ suc x + y
    plus_suc x y = omega arith

entry_below : (s c : ℕ) → cache_entry_of s c < cache_entries
unfolding cache_entry_of
entry_below s c = omega arith

or_right : (a b : Bool) → T b → T (empty_or a b)
or_right true b t = tt
or_right false b t = t

right_same : (o o' : Objects) (s c m k : ℕ) → lookup o' s c ≡ lookup o s c → dictionaries_read o' s c ≡ dictionaries_read o s c → cached_right o' s c m k ≡ cached_right o s c m k
unfolding cached_right
right_same o o' s c m k e h =
    ap₂ (λ (f : Option Pointer) (d : ℕ). empty_or (eqb s 0 && (eqb c 0 && (eqb m 0 && eqb k 0))) (finds f m && eqb k d)) e h

first : (cache : List ℕ) (i : ℕ) → get_or cache (cache_place i) 0 ≡ get_or cache (cache_place i + 0) 0
first cache i = ap (λ (x : ℕ). get_or cache x 0) (plus_none (cache_place i))
  where
    plus_none : (x : ℕ) → x ≡ x + 0
    plus_none x = omega arith

-- Words that stand at an entry's place are the entry that is asked for.
entry_words : (o : Objects) (cache : List ℕ) (i s c m k : ℕ) → get_or cache (cache_place i) 0 ≡ s → get_or cache (cache_place i + 1) 0 ≡ c → get_or cache (cache_place i + 2) 0 ≡ m
    → get_or cache (cache_place i + 3) 0 ≡ k → T (cached_right o s c m k) → T (cached_right_at o cache i)
entry_words o cache i s c m k a b d e t =
    subst (λ (x : ℕ). T (cached_right o x (get_or cache (cache_place i + 1) 0) (get_or cache (cache_place i + 2) 0) (get_or cache (cache_place i + 3) 0))) (sym a)
    (subst (λ (x : ℕ). T (cached_right o s x (get_or cache (cache_place i + 2) 0) (get_or cache (cache_place i + 3) 0))) (sym b)
    (subst (λ (x : ℕ). T (cached_right o s c x (get_or cache (cache_place i + 3) 0))) (sym d) (subst (λ (x : ℕ). T (cached_right o s c m x)) (sym e) t)))

module _ (o : Objects) where
  found_fine : (s c m k : ℕ) → lookup o s c ≡ found m → k ≡ dictionaries_read o s c → T (cached_right o s c m k)
  unfolding cached_right
  found_fine s c m k e h =
      or_right (eqb s 0 && (eqb c 0 && (eqb m 0 && eqb k 0))) (finds (lookup o s c) m && eqb k (dictionaries_read o s c))
      (and_both (finds (lookup o s c) m) (eqb k (dictionaries_read o s c)) (subst (λ (f : Option Pointer). T (finds f m)) (sym e) (eqb_refl m)) (true→T (eq-eqb k (dictionaries_read o s c) h)))

  -- the entry of a lookup that found is filled in
  pub cache_filled : (cache : List ℕ) (l : Looked) → length cache ≡ cache_words → LookedRight o l → T (cache_fine o cache) → T (cache_fine o (filled cache l))
  unfolding filled cache_fine
  cache_filled cache no_lookup n r t = t
  cache_filled cache (looked s c m k) n r t = at_below cache_entries (cached_right_at o cache') (λ i h. go i h (ℕ_discrete i e))
    where
      e : ℕ
      e = cache_entry_of s c

      words : List ℕ
      words = s ∷ c ∷ m ∷ k ∷ []

      cache' : List ℕ
      cache' = sets cache (cache_place e) words

      low : e < cache_entries
      low = entry_below s c

      inside : (j : ℕ) → j < cache_entry_words → get_or cache' (cache_place e + j) 0 ≡ get_or words j 0
      inside j h = sets_at words cache (cache_place e) j (let b = low in omega arith) h

      apart : (i j : ℕ) → (i ≡ e → ⊥) → j < cache_entry_words → get_or cache' (cache_place i + j) 0 ≡ get_or cache (cache_place i + j) 0
      apart i j d h = sets_other words cache (cache_place e) (cache_place i + j) (side (dec_lt i e) (dec_lt e i))
        where
          side : Dec (i < e) → Dec (e < i) → (cache_place i + j < cache_place e) ⊎ (cache_place e + length words ≤ cache_place i + j)
          side (yes l) q = inl (omega arith)
          side (no l) (yes q) = inr (omega arith)
          side (no l) (no q) = absurd (d (omega arith))

      go : (i : ℕ) → i < cache_entries → Dec (i ≡ e) → T (cached_right_at o cache' i)
      go i h (yes q) =
          subst (λ (x : ℕ). T (cached_right_at o cache' x)) (sym q)
          (entry_words o cache' e s c m k (first cache' e ∙ inside 0 (omega arith)) (inside 1 (omega arith)) (inside 2 (omega arith)) (inside 3 (omega arith))
          (found_fine s c m k r.0 r.1))
      go i h (no d) =
          entry_words o cache' i (get_or cache (cache_place i) 0) (get_or cache (cache_place i + 1) 0) (get_or cache (cache_place i + 2) 0) (get_or cache (cache_place i + 3) 0)
          (first cache' i ∙ apart i 0 d (omega arith) ∙ sym (first cache i)) (apart i 1 d (omega arith)) (apart i 2 d (omega arith)) (apart i 3 d (omega arith))
          (below_at cache_entries (cached_right_at o cache) t i h)

  -- an empty cache is right
  pub cache_empty : T (cache_fine o empty_cache)
  unfolding cache_fine cached_right
  cache_empty = at_below cache_entries (cached_right_at o empty_cache) (λ i h. all_zero i h)
    where
      zero_at : (j : ℕ) → j < cache_words → get_or empty_cache j 0 ≡ 0
      zero_at j h = get_or-replicate cache_words j 0 0 h

      all_zero : (i : ℕ) → i < cache_entries → T (cached_right_at o empty_cache i)
      all_zero i h =
          entry_words o empty_cache i 0 0 0 0 (zero_at (cache_place i) (omega arith)) (zero_at (cache_place i + 1) (omega arith)) (zero_at (cache_place i + 2) (omega arith))
          (zero_at (cache_place i + 3) (omega arith)) tt

-- lookups that are what they were keep the cache right
pub cache_kept : (o o' : Objects) → ((s c : ℕ) → (lookup o' s c ≡ lookup o s c) × (dictionaries_read o' s c ≡ dictionaries_read o s c))
    → (cache : List ℕ) → T (cache_fine o cache) → T (cache_fine o' cache)
unfolding cache_fine
cache_kept o o' same cache t = at_below cache_entries (cached_right_at o' cache) (λ i h. right_kept _ _ _ _ (same _ _) (below_at cache_entries (cached_right_at o cache) t i h))
  where
    right_kept : (s c m k : ℕ) → (lookup o' s c ≡ lookup o s c) × (dictionaries_read o' s c ≡ dictionaries_read o s c) → T (cached_right o s c m k) → T (cached_right o' s c m k)
    right_kept s c m k e r = subst T (sym (right_same o o' s c m k e.0 e.1)) r

pub length_filled : (cache : List ℕ) (l : Looked) → length (filled cache l) ≡ length cache
unfolding filled
length_filled cache no_lookup = refl
length_filled cache (looked s c m k) = length-sets cache (cache_place (cache_entry_of s c)) (s ∷ c ∷ m ∷ k ∷ [])
