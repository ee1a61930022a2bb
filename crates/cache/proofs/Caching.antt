-- An entry of the cache that has a selector and a class, and one that is filled.
use Prim.Native.Nat.{ℕ, suc, ◌+◌, ◌/◌, ◌%◌, ◌≤◌, ◌<◌}
use mathlib.Core.Path.{◌≡◌, refl, sym, ap, ◌∙◌, subst}
use mathlib.Core.Bool.{Bool, true, ◌&&◌}
use mathlib.Core.List.{List}
use native.Mathlib.Omega.{arith}
use borrow.Author.Tests.{ne_eqb}
use lib.Dec.{T, eqb, eqb→eq}
use lib.ListN.{get_or, set}
use lib.Seq.{set-get_or}
use lib.Bits.{bit_and}
use Rattle.bytecode.proofs.TestLaws.{true→T, and_left, and_right, below_at}
use Rattle.std.specs.Prelude.{Option, Some, None}
use Rattle.model.specs.declared.Pointer.{Pointer}
use Rattle.model.specs.Limits.{cache_entries}
use Rattle.model.specs.Objects.{Objects, objects_at}
use Rattle.model.specs.Lookup.{found, lookup, dictionaries_read}
use Rattle.plain.specs.Step.{looked}
use Rattle.cache.specs.Caches.{Caches, Kept}
use Rattle.plain.specs.Cache.{cache_entry_of, cache_place, filled, finds, empty_or, cached_right, cached_right_at, cache_fine}

pub entry_is : (s c : ℕ) → bit_and s c / 2 % cache_entries ≡ cache_entry_of s c
unfolding cache_entry_of
entry_is s c = refl

-- the test of an entry, and what it says
pub entry_of : {b : Bool} (x y s c : ℕ) → b ≡ (eqb x s && eqb y c) → b ≡ true → (x ≡ s) × (y ≡ c)
entry_of x y s c e h =
    let t : T (eqb x s && eqb y c) = true→T (sym e ∙ h) in
    (eqb→eq x s (and_left (eqb x s) (eqb y c) t), eqb→eq y c (and_right (eqb x s) (eqb y c) t))

module _ (o : Objects) where
  found_is : (x : Option Pointer) (m : ℕ) → T (finds x m) → found m ≡ x
  found_is (Some k) m t = ap found (sym (eqb→eq k.0 m t))
  found_is None m t = absurd t

  -- no selector is 0, so the entry is not an empty one
  fine_found : (s c m k : ℕ) → 1 ≤ s → T (cached_right o s c m k) → (found m ≡ lookup o s c) × (k ≡ dictionaries_read o s c)
  unfolding cached_right
  fine_found s c m k h t =
      let both : T (finds (lookup o s c) m && eqb k (dictionaries_read o s c)) =
      subst (λ (b : Bool). T (empty_or (b && (eqb c 0 && (eqb m 0 && eqb k 0))) (finds (lookup o s c) m && eqb k (dictionaries_read o s c)))) (ne_eqb s 0 (λ q. omega arith)) t in (
        found_is (lookup o s c) m (and_left (finds (lookup o s c) m) (eqb k (dictionaries_read o s c)) both),
        eqb→eq k (dictionaries_read o s c) (and_right (finds (lookup o s c) m) (eqb k (dictionaries_read o s c)) both),
      )

  pub cached_found : (cache : List ℕ) (s c e : ℕ) → T (cache_fine o cache) → 1 ≤ s → e < cache_entries → get_or cache (cache_place e) 0 ≡ s → get_or cache (cache_place e + 1) 0 ≡ c
      → (found (get_or cache (cache_place e + 2) 0) ≡ lookup o s c) × (get_or cache (cache_place e + 3) 0 ≡ dictionaries_read o s c)
  unfolding cache_fine
  cached_found cache s c e t h l p q =
      let m = get_or cache (cache_place e + 2) 0 in
      let k = get_or cache (cache_place e + 3) 0 in
      fine_found s c m k h
      (subst (λ (y : ℕ). T (cached_right o s y m k)) q
      (subst (λ (x : ℕ). T (cached_right o x (get_or cache (cache_place e + 1) 0) m k)) p (below_at cache_entries (cached_right_at o cache) t e l)))

-- the words of an entry
pub entry_filled : (cache : List ℕ) (s c m k e : ℕ) → e ≡ cache_entry_of s c
    → set (set (set (set cache (cache_place e) s) (cache_place e + 1) c) (cache_place e + 2) m) (cache_place e + 3) k ≡ filled cache (looked s c m k)
unfolding filled
entry_filled cache s c m k e p =
    (λ i. set (set (set (set cache (cache_place e) s) (one (cache_place e) i) c) (two (cache_place e) i) m) (three (cache_place e) i) k)
    ∙ ap (λ (j : ℕ). set (set (set (set cache (cache_place j) s) (suc (cache_place j)) c) (suc (suc (cache_place j))) m) (suc (suc (suc (cache_place j)))) k) p
  where
    one : (j : ℕ) → j + 1 ≡ suc j
    one j = omega arith

    two : (j : ℕ) → j + 2 ≡ suc (suc j)
    two j = omega arith

    three : (j : ℕ) → j + 3 ≡ suc (suc (suc j))
    three j = omega arith

-- ---- an entry that is there already

entry_below : (s c : ℕ) → cache_entry_of s c < cache_entries
unfolding cache_entry_of
entry_below s c = omega arith

-- a cache of these objects has the method that a lookup in them finds, and how many dictionaries it reads
pub found_kept : {n b : ℕ} {contents bodies cache : List ℕ} {selector class method dictionaries : ℕ} → Caches n b contents bodies cache → 1 ≤ selector
    → lookup (objects_at n b contents bodies) selector class ≡ found method → dictionaries ≡ dictionaries_read (objects_at n b contents bodies) selector class
    → Kept cache selector class method dictionaries
found_kept {cache = cache} {selector = s} {class = c} k named f d =
    record {
      held = λ p q.
          let h = cached_found _ cache s c (cache_entry_of s c) k.fine named (entry_below s c) p q in (ap method_of (h.0 ∙ f), h.1 ∙ sym d);
    }
  where
    method_of : Option Pointer → ℕ
    method_of (Some x) = x.0
    method_of None = 0

-- what is filled in then is there
words_same : (l : List ℕ) (i j k h : ℕ) {x y z w : ℕ} → get_or l i 0 ≡ x → get_or l j 0 ≡ y → get_or l k 0 ≡ z → get_or l h 0 ≡ w → set (set (set (set l i x) j y) k z) h w ≡ l
words_same l i j k h p q r t = rw (← p, set-get_or, ← q, set-get_or, ← r, set-get_or, ← t, set-get_or)

pub entry_there : (cache : List ℕ) (s c m k e : ℕ) → e ≡ cache_entry_of s c → Kept cache s c m k → get_or cache (cache_place e) 0 ≡ s → get_or cache (cache_place e + 1) 0 ≡ c
    → cache ≡ filled cache (looked s c m k)
entry_there cache s c m k e p kept x y =
    let h = kept.held (rw p at x) (rw p at y) in
    sym (words_same cache (cache_place e) (cache_place e + 1) (cache_place e + 2) (cache_place e + 3) x y (rw p h.0) (rw p h.1)) ∙ entry_filled cache s c m k e p
