-- The tests of chains and lookups decide what is said of them without a bound (02, M-101), how many dictionaries a lookup reads included (M-105).
use Prim.Native.Nat.{ℕ, zero, suc, ◌+◌, ◌/◌, ◌%◌, ◌≤◌}
use mathlib.Core.Path.{◌≡◌, refl, sym, ap, ap₂, ◌∙◌, subst}
use mathlib.Core.Logic.{◌↔◌, ◌⊎◌, inl, inr}
use mathlib.Core.Bool.{Bool, true, false, ◌||◌, ◌&&◌}
use native.Mathlib.Omega.{arith}
use borrow.Author.Tests.{eq-eqb}
use lib.Dec.{T, eqb, leb, eqb→eq, leb→le}
use Rattle.bytecode.proofs.TestLaws.{true→T, and_left, and_right, or_cases}
use Rattle.std.specs.Prelude.{Option, Some, None}
use Rattle.model.specs.declared.Pointer.{Pointer}
use Rattle.model.specs.Limits.{class_kind}
use Rattle.model.specs.Word.{is_pointer}
use Rattle.model.specs.Objects.{Objects, superclass_word, dictionary_word, is_kind, kind}
use Rattle.model.specs.Lookup.{found, find_in, lookup_within, dictionaries_within, pairs_within, in_chain_within, ends_within, Chain, none, more, Looks, ended, here, above, InChain, same, higher}
use Rattle.model.proofs.Parts.{or_right}
use Rattle.model.proofs.PairLaws.{pairs_up_to, pairs_are, pairs_hit, pairs_miss, pairs_none}

-- a word that names an object of a kind
pub record Named (o : Objects) (k w : ℕ) : Type 0 where
  pub even : w % 2 ≡ 0
  pub least : 1 ≤ w / 2
  pub most : w / 2 ≤ o.n
  pub kinds : kind o (w / 2) ≡ k

pub named : (o : Objects) (k w : ℕ) → T (is_kind o k w) → Named o k w
unfolding is_kind is_pointer
named o k w t =
    let p : T (is_pointer o.n w) = and_left (is_pointer o.n w) (eqb (kind o (w / 2)) k) t in
    let q : T (leb 1 (w / 2) && leb (w / 2) o.n) = and_right (eqb (w % 2) 0) (leb 1 (w / 2) && leb (w / 2) o.n) p in
    record {
      even = eqb→eq (w % 2) 0 (and_left (eqb (w % 2) 0) (leb 1 (w / 2) && leb (w / 2) o.n) p);
      least = leb→le 1 (w / 2)
          (and_left (leb 1 (w / 2)) (leb (w / 2) o.n) q);
      most = leb→le (w / 2) o.n (and_right (leb 1 (w / 2)) (leb (w / 2) o.n) q);
      kinds = eqb→eq
          (kind o (w / 2)) k (and_right (is_pointer o.n w) (eqb (kind o (w / 2)) k) t);
    }

no_both : {b : Bool} → b ≡ true → b ≡ false → ⊥
no_both p q = subst T (sym p ∙ q) tt

-- what a lookup comes to and how much it reads, said otherwise
looked : {o : Objects} {s c j k p q : ℕ} {f g : Option Pointer} → g ≡ f → j ≡ k → q ≡ p → Looks o s c f k p → Looks o s c g j q
looked {o = o} {s = s} {c = c} {j = j} {k = k} {p = p} {g = g} e d h l =
    subst (λ (x : ℕ). Looks o s c g j x) (sym h) (subst (λ (x : ℕ). Looks o s c g x p) (sym d) (subst (λ (x : Option Pointer). Looks o s c x k p) (sym e) l))

module _ (o : Objects) where
  -- How a lookup and a chain turn
  pub class_hit : (left s c m : ℕ) → is_kind o class_kind c ≡ true → find_in o (dictionary_word o c) s ≡ found m → lookup_within (suc left) o s c ≡ found m
  unfolding lookup_within
  class_hit left s c m e h = rw (e, h, lookup_within)

  pub class_miss : (left s c : ℕ) → is_kind o class_kind c ≡ true → find_in o (dictionary_word o c) s ≡ None
      → lookup_within (suc left) o s c ≡ lookup_within left o s (superclass_word o c)
  unfolding lookup_within
  class_miss left s c e h = rw (e, h, lookup_within)

  pub no_class : (left s c : ℕ) → is_kind o class_kind c ≡ false → lookup_within left o s c ≡ None
  unfolding lookup_within
  no_class zero s c e = refl
  no_class (suc left) s c e = rw (e, lookup_within)

  -- and how many dictionaries it reads
  pub read_hit : (left s c m : ℕ) → is_kind o class_kind c ≡ true → find_in o (dictionary_word o c) s ≡ found m → dictionaries_within (suc left) o s c ≡ 1
  unfolding dictionaries_within
  read_hit left s c m e h = rw (e, h, dictionaries_within)

  pub read_miss : (left s c : ℕ) → is_kind o class_kind c ≡ true → find_in o (dictionary_word o c) s ≡ None
      → dictionaries_within (suc left) o s c ≡ suc (dictionaries_within left o s (superclass_word o c))
  unfolding dictionaries_within
  read_miss left s c e h = rw (e, h, dictionaries_within)

  pub read_none : (left s c : ℕ) → is_kind o class_kind c ≡ false → dictionaries_within left o s c ≡ 0
  unfolding dictionaries_within
  read_none zero s c e = refl
  read_none (suc left) s c e = rw (e, dictionaries_within)

  -- no more than there are turns
  pub read_within : (n s c : ℕ) → dictionaries_within n o s c ≤ n
  unfolding dictionaries_within
  read_within zero s c = omega arith
  read_within (suc n) s c = go (is_kind o class_kind c) (find_in o (dictionary_word o c) s) refl refl (read_within n s (superclass_word o c))
    where
      go : (b : Bool) (f : Option Pointer) → is_kind o class_kind c ≡ b → find_in o (dictionary_word o c) s ≡ f → dictionaries_within n o s (superclass_word o c) ≤ n
          → dictionaries_within (suc n) o s c ≤ suc n
      go true (Some m) p q ih = let e = read_hit n s c m.0 p q in omega arith
      go true None p q ih = let e = read_miss n s c p q in omega arith
      go false f p q ih = let e = read_none (suc n) s c p in omega arith

  pub chain_class : (left a c : ℕ) → is_kind o class_kind c ≡ true → in_chain_within (suc left) o a c ≡ (eqb a c || in_chain_within left o a (superclass_word o c))
  unfolding in_chain_within
  chain_class left a c e = rw (e, in_chain_within)

  pub chain_none : (left a c : ℕ) → is_kind o class_kind c ≡ false → in_chain_within left o a c ≡ false
  unfolding in_chain_within
  chain_none zero a c e = refl
  chain_none (suc left) a c e = rw (e, in_chain_within)

  pub ends_class : (left c : ℕ) → is_kind o class_kind c ≡ true → ends_within (suc left) o c ≡ ends_within left o (superclass_word o c)
  unfolding ends_within
  ends_class left c e = rw (e, ends_within)

  pub ends_none : (left c : ℕ) → is_kind o class_kind c ≡ false → ends_within left o c ≡ true
  unfolding ends_within
  ends_none zero c e = rw e
  ends_none (suc left) c e = rw (e, ends_within)

  pub ends_last : (c : ℕ) → is_kind o class_kind c ≡ true → ends_within 0 o c ≡ false
  unfolding ends_within
  ends_last c e = rw e

  pub class_below : {a c : ℕ} → InChain o a c → is_kind o class_kind c ≡ true
  class_below (same p e) = p
  class_below (higher p i) = p

  class_above : {a c : ℕ} → InChain o a c → is_kind o class_kind a ≡ true
  class_above (same p e) = ap (is_kind o class_kind) e ∙ p
  class_above (higher p i) = class_above i

  -- A chain has at most n classes exactly where the test says so;
  test→chain : (n c : ℕ) → T (ends_within n o c) → (k : ℕ) × (Chain o c k × (k ≤ n))
  test→chain zero c t = go (is_kind o class_kind c) refl
    where
      go : (b : Bool) → is_kind o class_kind c ≡ b → (k : ℕ) × (Chain o c k × (k ≤ 0))
      go true p = absurd (subst T (ends_last c p) t)
      go false p = (0, (none p, omega arith))
  test→chain (suc n) c t = go (is_kind o class_kind c) refl (test→chain n (superclass_word o c))
    where
      go : (b : Bool) → is_kind o class_kind c ≡ b → (T (ends_within n o (superclass_word o c)) → (k : ℕ) × (Chain o (superclass_word o c) k × (k ≤ n)))
          → (k : ℕ) × (Chain o c k × (k ≤ suc n))
      go true p ih = let r = ih (subst T (ends_class n c p) t) in let h = r.1.1 in (suc r.0, (more p r.1.0, omega arith))
      go false p ih = (0, (none p, omega arith))

  chain→test : (n c k : ℕ) → Chain o c k → k ≤ n → T (ends_within n o c)
  chain→test n c zero (none p) h = true→T (ends_none n c p)
  chain→test zero c (suc k) (more p x) h = absurd (omega arith)
  chain→test (suc n) c (suc k) (more p x) h = subst T (sym (ends_class n c p)) (chain→test n (superclass_word o c) k x (omega arith))

  pub decides_chain : (n c : ℕ) → T (ends_within n o c) ↔ ((k : ℕ) × (Chain o c k × (k ≤ n)))
  decides_chain n c = (test→chain n c, λ r. chain→test n c r.0 r.1.0 r.1.1)

  -- and one that goes round never has.
  chain_above : (a c k : ℕ) → InChain o a c → Chain o c k → (j : ℕ) × (Chain o a j × (j ≤ k))
  chain_above a c k (same p e) x = (k, (subst (λ (w : ℕ). Chain o w k) (sym e) x, omega arith))
  chain_above a c zero (higher p i) (none q) = absurd (no_both p q)
  chain_above a c (suc k) (higher p i) (more q x) = let r = chain_above a (superclass_word o c) k i x in let h = r.1.1 in (r.0, (r.1.0, omega arith))

  chain_once : (c j k : ℕ) → Chain o c j → Chain o c k → j ≡ k
  chain_once c zero zero x y = refl
  chain_once c zero (suc k) (none p) (more q y) = absurd (no_both q p)
  chain_once c (suc j) zero (more p x) (none q) = absurd (no_both p q)
  chain_once c (suc j) (suc k) (more p x) (more q y) = ap suc (chain_once (superclass_word o c) j k x y)

  pub goes_round : (c k : ℕ) → InChain o c (superclass_word o c) → Chain o c k → ⊥
  goes_round c zero i (none p) = no_both (class_above i) p
  goes_round c (suc k) i (more p x) =
      let r = chain_above c (superclass_word o c) k i x in
      let h = r.1.1 in
      let e = chain_once c r.0 (suc k) r.1.0 (more p x) in
      omega arith

  -- A lookup along a chain that ends in time is the whole lookup.
  pub looks : (n s c : ℕ) → T (ends_within n o c) → Looks o s c (lookup_within n o s c) (dictionaries_within n o s c) (pairs_within n o s c)
  looks zero s c t = go (is_kind o class_kind c) refl
    where
      go : (b : Bool) → is_kind o class_kind c ≡ b → Looks o s c (lookup_within 0 o s c) (dictionaries_within 0 o s c) (pairs_within 0 o s c)
      go true p = absurd (subst T (ends_last c p) t)
      go false p = looked (no_class 0 s c p) (read_none 0 s c p) (pairs_none o 0 s c p) (ended p)
  looks (suc n) s c t = go (is_kind o class_kind c) (find_in o (dictionary_word o c) s) refl refl (looks n s (superclass_word o c))
    where
      go : (b : Bool) (f : Option Pointer) → is_kind o class_kind c ≡ b → find_in o (dictionary_word o c) s ≡ f
          → (T (ends_within n o (superclass_word o c))
          → Looks o s (superclass_word o c) (lookup_within n o s (superclass_word o c)) (dictionaries_within n o s (superclass_word o c)) (pairs_within n o s (superclass_word o c)))
          → Looks o s c (lookup_within (suc n) o s c) (dictionaries_within (suc n) o s c) (pairs_within (suc n) o s c)
      go true (Some m) p q ih =
          looked (class_hit n s c m.0 p q) (read_hit n s c m.0 p q) (pairs_hit o n s c m.0 p q) (here p q (pairs_up_to o (dictionary_word o c) s))
      go true None p q ih =
          looked (class_miss n s c p q) (read_miss n s c p q) (pairs_miss o n s c p q)
          (above p q (pairs_up_to o (dictionary_word o c) s) (ih (subst T (ends_class n c p) t)))
      go false f p q ih = looked (no_class (suc n) s c p) (read_none (suc n) s c p) (pairs_none o (suc n) s c p) (ended p)

  pub looks_few : (n s c k : ℕ) (f : Option Pointer) {p : ℕ} → T (ends_within n o c) → Looks o s c f k p
      → (f ≡ lookup_within n o s c) × (k ≡ dictionaries_within n o s c) × (k ≤ n) × (p ≡ pairs_within n o s c)
  looks_few n s c zero f t (ended p) = (sym (no_class n s c p), sym (read_none n s c p), omega arith, sym (pairs_none o n s c p))
  looks_few zero s c (suc k) f t (here p q u) = absurd (subst T (ends_last c p) t)
  looks_few zero s c (suc k) f t (above p q u l) = absurd (subst T (ends_last c p) t)
  looks_few (suc n) s c (suc k) f t (here {m = m} p q u) =
      (sym (class_hit n s c m p q), sym (read_hit n s c m p q), omega arith, pairs_are o (dictionary_word o c) s u ∙ sym (pairs_hit o n s c m p q))
  looks_few (suc n) s c (suc k) f t (above p q u l) =
      let r = looks_few n s (superclass_word o c) k f (subst T (ends_class n c p) t) l in
      let h = r.2 in (
        r.0 ∙ sym (class_miss n s c p q),
        ap suc r.1 ∙ sym (read_miss n s c p q),
        omega arith,
        ap₂ ◌+◌ (pairs_are o (dictionary_word o c) s u) r.3 ∙ sym (pairs_miss o n s c p q),
      )

  -- and the test whether a class is in it decides that.
  pub test→in : (n a c : ℕ) → T (in_chain_within n o a c) → InChain o a c
  unfolding in_chain_within
  test→in zero a c t = absurd t
  test→in (suc n) a c t = go (is_kind o class_kind c) refl (test→in n a (superclass_word o c))
    where
      go : (b : Bool) → is_kind o class_kind c ≡ b → (T (in_chain_within n o a (superclass_word o c)) → InChain o a (superclass_word o c)) → InChain o a c
      go false q ih = absurd (subst T (chain_none (suc n) a c q) t)
      go true q ih = either (or_cases (eqb a c) (in_chain_within n o a (superclass_word o c)) (subst T (chain_class n a c q) t))
        where
          either : T (eqb a c) ⊎ T (in_chain_within n o a (superclass_word o c)) → InChain o a c
          either (inl s) = same q (eqb→eq a c s)
          either (inr s) = higher q (ih s)

  pub in→test : (n a c : ℕ) → T (ends_within n o c) → InChain o a c → T (in_chain_within n o a c)
  in→test zero a c t i = absurd (subst T (ends_last c (class_below i)) t)
  in→test (suc n) a c t (same p e) = subst T (sym (chain_class n a c p)) (subst (λ (b : Bool). T (b || in_chain_within n o a (superclass_word o c))) (sym (eq-eqb a c e)) tt)
  in→test (suc n) a c t (higher p i) =
      subst T (sym (chain_class n a c p)) (or_right (eqb a c) (in_chain_within n o a (superclass_word o c)) (in→test n a (superclass_word o c) (subst T (ends_class n c p) t) i))
