-- How many pairs a lookup reads (02, M-102): the number in a dictionary is what is said of it, and how it adds up along a chain.
use Prim.Native.Nat.{ℕ, zero, suc, ◌+◌, ◌≤◌, ◌<◌}
use mathlib.Core.Path.{◌≡◌, refl, sym, subst}
use mathlib.Core.Bool.{Bool, true, false}
use native.Mathlib.Omega.{arith}
use borrow.Author.Tests.{ltb-true, ltb-false}
use lib.Dec.{ltb}
use Rattle.std.specs.Prelude.{None}
use Rattle.model.specs.Limits.{class_kind}
use Rattle.model.specs.Objects.{Objects, is_kind, superclass_word, dictionary_word, pair_count, pair_selector}
use Rattle.model.specs.Lookup.{found, find_in, pairs_from, pairs_in, pairs_within, PairsUpTo, first, all}

module _ (o : Objects) (d s : ℕ) where
  -- How the walk turns
  pairs_on : (i left : ℕ) → ltb (pair_selector o d i) s ≡ true → pairs_from o d s i (suc left) ≡ suc (pairs_from o d s (suc i) left)
  unfolding pairs_from
  pairs_on i left e = rw (e, pairs_from)

  pairs_stop : (i left : ℕ) → ltb (pair_selector o d i) s ≡ false → pairs_from o d s i (suc left) ≡ 1
  unfolding pairs_from
  pairs_stop i left e = rw (e, pairs_from)

  more_below : (i : ℕ) → ((j : ℕ) → j < i → pair_selector o d j < s) → pair_selector o d i < s → (j : ℕ) → j < suc i → pair_selector o d j < s
  more_below i f h j l = go (ltb j i) refl
    where
      go : (b : Bool) → ltb j i ≡ b → pair_selector o d j < s
      go true p = f j (ltb-true j i p)
      go false p =
          let g = ltb-false j i p in
          let e : i ≡ j = omega arith in
          subst (λ (k : ℕ). pair_selector o d k < s) e h

  up_to_from : (i left : ℕ) → i + left ≡ pair_count o d → ((j : ℕ) → j < i → pair_selector o d j < s) → PairsUpTo o d s (i + pairs_from o d s i left)
  unfolding pairs_from
  up_to_from i zero h f = subst (PairsUpTo o d s) (sym h) (all (λ j l. f j (omega arith)))
  up_to_from i (suc left) h f = go (ltb (pair_selector o d i) s) refl (up_to_from (suc i) left (omega arith))
    where
      go : (b : Bool) → ltb (pair_selector o d i) s ≡ b → (((j : ℕ) → j < suc i → pair_selector o d j < s) → PairsUpTo o d s (suc i + pairs_from o d s (suc i) left))
          → PairsUpTo o d s (i + pairs_from o d s i (suc left))
      go true p ih =
          let q = pairs_on i left p in
          let e : suc i + pairs_from o d s (suc i) left ≡ i + pairs_from o d s i (suc left) = omega arith in
          subst (PairsUpTo o d s) e (ih (more_below i f (ltb-true (pair_selector o d i) s p)))
      go false p ih =
          let q = pairs_stop i left p in
          let e : suc i ≡ i + pairs_from o d s i (suc left) = omega arith in
          subst (PairsUpTo o d s) e (first (omega arith) f (ltb-false (pair_selector o d i) s p))

  pub pairs_up_to : PairsUpTo o d s (pairs_in o d s)
  unfolding pairs_in
  pairs_up_to =
      let k : ℕ = pairs_from o d s 0 (pair_count o d) in
      let e : 0 + k ≡ k = omega arith in
      subst (PairsUpTo o d s) e (up_to_from 0 (pair_count o d) (omega arith) (λ j l. absurd (omega arith)))

  -- there is one such number
  up_to_once : {j k : ℕ} → PairsUpTo o d s j → PairsUpTo o d s k → j ≡ k
  up_to_once (first {i = i} p f g) (first {i = i'} p' f' g') = go (ltb i i') (ltb i' i) refl refl
    where
      go : (b b' : Bool) → ltb i i' ≡ b → ltb i' i ≡ b' → suc i ≡ suc i'
      go true b' q r = let h = f' i (ltb-true i i' q) in absurd (omega arith)
      go false true q r = let h = f i' (ltb-true i' i r) in absurd (omega arith)
      go false false q r = let h = ltb-false i i' q in let h' = ltb-false i' i r in omega arith
  up_to_once (first {i = i} p f g) (all h) = let l = h i p in absurd (omega arith)
  up_to_once (all h) (first {i = i} p f g) = let l = h i p in absurd (omega arith)
  up_to_once (all h) (all g) = refl

  pub pairs_are : {k : ℕ} → PairsUpTo o d s k → k ≡ pairs_in o d s
  pairs_are u = up_to_once u pairs_up_to

  up_to_few : {k : ℕ} → PairsUpTo o d s k → k ≤ pair_count o d
  up_to_few (first p f g) = omega arith
  up_to_few (all h) = omega arith

  pub pairs_few : pairs_in o d s ≤ pair_count o d
  pairs_few = up_to_few pairs_up_to

module _ (o : Objects) where
  -- along a chain
  pub pairs_hit : (left s c m : ℕ) → is_kind o class_kind c ≡ true → find_in o (dictionary_word o c) s ≡ found m → pairs_within (suc left) o s c ≡ pairs_in o (dictionary_word o c) s
  unfolding pairs_within
  pairs_hit left s c m e h = rw (e, h, pairs_within) (omega arith)

  pub pairs_miss : (left s c : ℕ) → is_kind o class_kind c ≡ true → find_in o (dictionary_word o c) s ≡ None
      → pairs_within (suc left) o s c ≡ pairs_in o (dictionary_word o c) s + pairs_within left o s (superclass_word o c)
  unfolding pairs_within
  pairs_miss left s c e h = rw (e, h, pairs_within)

  pub pairs_none : (left s c : ℕ) → is_kind o class_kind c ≡ false → pairs_within left o s c ≡ 0
  unfolding pairs_within
  pairs_none zero s c e = refl
  pairs_none (suc left) s c e = rw (e, pairs_within)
