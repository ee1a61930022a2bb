-- Counts answer whether all methods under a selector take so many arguments.
use Prim.Native.Nat.{ℕ, zero, suc, ◌/◌, ◌%◌, ◌≤◌, ◌<◌}
use mathlib.Core.Path.{◌≡◌, refl, sym, ap, ◌∙◌, subst}
use mathlib.Core.Logic.{◌⊎◌, inl, inr}
use mathlib.Core.Bool.{Bool, ◌||◌}
use mathlib.Core.List.{List}
use native.Mathlib.Omega.{arith}
use borrow.Author.Tests.{eq-eqb}
use lib.Dec.{T, eqb, eqb→eq}
use lib.ListN.{get_or}
use Rattle.bytecode.specs.Test.{below, implies}
use Rattle.bytecode.proofs.TestLaws.{true→T, or_cases, implied, up_to_at, at_up_to, below_at, at_below}
use Rattle.model.specs.Limits.{class_kind}
use Rattle.model.specs.Word.{pointer, object_number}
use Rattle.model.specs.Objects.{Objects, kind, is_kind, dictionary_word, pair_count, pair_selector, pair_method}
use Rattle.model.specs.Method.{argument_count}
use Rattle.model.specs.Rules.{takes_count}
use Rattle.model.proofs.ChainLaws.{named}
use Rattle.model.proofs.Parts.{same_test, implying, or_left, or_right}
use Rattle.model.proofs.Facts.{naming, named_pointer, pointer_of}
use Rattle.methods.specs.Counts.{Counts}

module _ (o : Objects) where
  abbrev inPair : ℕ → ℕ → ℕ → ℕ → Bool
  inPair s n c i = implies (eqb (pair_selector o (dictionary_word o c) i) s) (eqb (argument_count o (pair_method o (dictionary_word o c) i)) n)

  -- at one pair
  pub takes_at : (s n : ℕ) → T (takes_count o s n) → (c i : ℕ) → T (is_kind o class_kind c) → i < pair_count o (dictionary_word o c) → pair_selector o (dictionary_word o c) i ≡ s
      → argument_count o (pair_method o (dictionary_word o c) i) ≡ n
  unfolding takes_count
  takes_at s n t c i k l e =
      let h = named o class_kind c k in
      let u = implied (eqb (kind o (c / 2)) class_kind) (below (pair_count o (dictionary_word o (pointer (c / 2)))) (inPair s n (pointer (c / 2))))
      (up_to_at o.n (λ j. implies (eqb (kind o j) class_kind) (below (pair_count o (dictionary_word o (pointer j))) (inPair s n (pointer j)))) t (c / 2)
      h.least h.most) (true→T (eq-eqb (kind o (c / 2)) class_kind h.kinds)) in
      let v : T (below (pair_count o (dictionary_word o c)) (inPair s n c)) = subst (λ (x : ℕ). T (below (pair_count o (dictionary_word o x)) (inPair s n x))) (pointer_of c h.even) u in
      eqb→eq (argument_count o (pair_method o (dictionary_word o c) i)) n
      (implied (eqb (pair_selector o (dictionary_word o c) i) s) (eqb (argument_count o (pair_method o (dictionary_word o c) i)) n)
      (below_at (pair_count o (dictionary_word o c)) (inPair s n c) v i l) (true→T (eq-eqb (pair_selector o (dictionary_word o c) i) s e)))

  -- and from all of them
  pub at_takes : (s n : ℕ) → ((c i : ℕ) → T (is_kind o class_kind c) → i < pair_count o (dictionary_word o c) → pair_selector o (dictionary_word o c) i ≡ s
      → argument_count o (pair_method o (dictionary_word o c) i) ≡ n)
      → T (takes_count o s n)
  unfolding takes_count
  at_takes s n f =
      at_up_to o.n (λ j. implies (eqb (kind o j) class_kind) (below (pair_count o (dictionary_word o (pointer j))) (inPair s n (pointer j))))
      (λ j a b. implying (eqb (kind o j) class_kind) (below (pair_count o (dictionary_word o (pointer j))) (inPair s n (pointer j)))
      (λ q. at_below (pair_count o (dictionary_word o (pointer j))) (inPair s n (pointer j))
      (λ i l. implying (eqb (pair_selector o (dictionary_word o (pointer j)) i) s) (eqb (argument_count o (pair_method o (dictionary_word o (pointer j)) i)) n)
      (λ p. true→T (eq-eqb (argument_count o (pair_method o (dictionary_word o (pointer j)) i)) n
      (f (pointer j) i (is_class j a b q) l (eqb→eq (pair_selector o (dictionary_word o (pointer j)) i) s p)))))))
    where
      is_class : (j : ℕ) → 1 ≤ j → j ≤ o.n → T (eqb (kind o j) class_kind) → T (is_kind o class_kind (pointer j))
      is_class j a b q = subst (λ (k : ℕ). T (is_kind o k (pointer j))) (eqb→eq (kind o j) class_kind q) (naming o (kind o j) (pointer j) (named_pointer o j a b))

  module _ (counts : List ℕ) (c : Counts o counts) (s n : ℕ) (even : s % 2 ≡ 0) where
    abbrev note : ℕ
    note = get_or counts (object_number s) 0

    to_note : T (takes_count o s n) → T (eqb note 0 || eqb note (suc n))
    to_note t = go note refl
      where
        go : (k : ℕ) → note ≡ k → T (eqb note 0 || eqb note (suc n))
        go zero e = or_left (eqb note 0) (eqb note (suc n)) (true→T (eq-eqb note 0 e))
        go (suc a) e =
            let h = c.only (object_number s) a e in
            let q = takes_at s n t h.class h.index h.is_class h.inside (h.named ∙ pointer_of s even) in
            or_right (eqb note 0) (eqb note (suc n)) (true→T (eq-eqb note (suc n) (e ∙ ap suc (sym h.takes ∙ q))))

    of_note : T (eqb note 0 || eqb note (suc n)) → T (takes_count o s n)
    of_note t = at_takes s n (λ k i a l e. pair k i e (c.each k i a l) (or_cases (eqb note 0) (eqb note (suc n)) t))
      where
        pair : (k i : ℕ) → pair_selector o (dictionary_word o k) i ≡ s → get_or counts (object_number (pair_selector o (dictionary_word o k) i)) 0 ≡ suc
            (argument_count o (pair_method o (dictionary_word o k) i))
            → T (eqb note 0) ⊎ T (eqb note (suc n)) → argument_count o (pair_method o (dictionary_word o k) i) ≡ n
        pair k i e q (inl z) =
            let x : note ≡ suc (argument_count o (pair_method o (dictionary_word o k) i)) = ap (λ (w : ℕ). get_or counts (object_number w) 0) (sym e) ∙ q in
            let y = eqb→eq note 0 z in
            absurd (omega arith)
        pair k i e q (inr z) =
            let x : note ≡ suc (argument_count o (pair_method o (dictionary_word o k) i)) = ap (λ (w : ℕ). get_or counts (object_number w) 0) (sym e) ∙ q in
            let y = eqb→eq note (suc n) z in
            omega arith

    pub takes_by_counts : takes_count o s n ≡ (eqb note 0 || eqb note (suc n))
    takes_by_counts = same_test (takes_count o s n) (eqb note 0 || eqb note (suc n)) to_note of_note
