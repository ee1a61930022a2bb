-- Counting the arguments under each selector, pair by pair.
use Prim.Native.Nat.{ℕ, zero, suc, ◌+◌, ◌/◌, ◌≤◌, ◌<◌}
use mathlib.Core.Path.{◌≡◌, refl, sym, ap, ◌∙◌, subst}
use mathlib.Core.Logic.{◌⊎◌, inl, inr, ◌≢◌}
use mathlib.Core.Bool.{Bool, true, false, ◌&&◌}
use mathlib.Core.List.{List}
use native.Mathlib.Omega.{arith}
use native.Mathlib.Nat.{suc_inj}
use native.Mathlib.Decide.{ℕ_discrete, dec_lt}
use borrow.Author.Tests.{eq-eqb}
use lib.Dec.{T, eqb, eqb→eq}
use lib.ListN.{length, get_or}
use lib.Seq.{get_or-set_same, get_or-set_other}
use Rattle.bytecode.specs.Test.{below}
use Rattle.bytecode.proofs.TestLaws.{true→T, and_left, and_right, and_both, implied, up_to_at, at_up_to, below_at, at_below}
use Rattle.model.specs.Limits.{bytes_kind, class_kind}
use Rattle.model.specs.Word.{pointer, object_number}
use Rattle.model.specs.Objects.{Objects, kind, is_kind, dictionary_word, pair_count, pair_selector, pair_method}
use Rattle.model.specs.Method.{home, argument_count}
use Rattle.model.specs.Rules.{rule6, dictionary_methods_fine, takes_count}
use Rattle.model.proofs.ChainLaws.{Named, named}
use Rattle.model.proofs.Parts.{implying}
use Rattle.model.proofs.Facts.{naming, named_pointer, pointer_of, PairFacts}
use Rattle.rules.proofs.RuleFacts.{class_at}
use Rattle.methods.specs.Passes.{holder_fine, holders}
use Rattle.methods.specs.Counts.{Counted, Counts, PairRight, Counting, Turned, Noted, Held}
use Rattle.methods.proofs.CountLaws.{takes_at, at_takes}

-- rule 6 at a pair
pub pair_at : (e : ℕ) (o : Objects) → T (rule6 e o) → (c i : ℕ) → T (is_kind o class_kind c) → i < pair_count o (dictionary_word o c) → PairFacts o (dictionary_word o c) i
pair_at e o r c i t l = (class_at e o r c t).pairs i l

-- right dictionaries at one pair
module _ (o : Objects) (t : T (holders o)) (c i : ℕ) (k : T (is_kind o class_kind c)) (l : i < pair_count o (dictionary_word o c)) where
  abbrev both : ℕ → ℕ → Bool
  both x j = eqb (home o (pair_method o (dictionary_word o x) j)) x && takes_count o (pair_selector o (dictionary_word o x) j) (argument_count o (pair_method o (dictionary_word o x) j))

  at_pair : T (both c i)
  unfolding holders holder_fine dictionary_methods_fine
  at_pair =
      let h = named o class_kind c k in
      let u = implied (eqb (kind o (c / 2)) class_kind) (below (pair_count o (dictionary_word o (pointer (c / 2)))) (both (pointer (c / 2))))
      (up_to_at o.n (holder_fine o) t (c / 2) h.least h.most) (true→T (eq-eqb (kind o (c / 2)) class_kind h.kinds)) in
      let v = subst (λ (x : ℕ). T (below (pair_count o (dictionary_word o x)) (both x))) (pointer_of c h.even) u in
      below_at (pair_count o (dictionary_word o c)) (both c) v i l

  pub holder_home : home o (pair_method o (dictionary_word o c) i) ≡ c
  holder_home = eqb→eq (home o (pair_method o (dictionary_word o c) i)) c (and_left (eqb (home o (pair_method o (dictionary_word o c) i)) c)
      (takes_count o (pair_selector o (dictionary_word o c) i) (argument_count o (pair_method o (dictionary_word o c) i))) at_pair)

  pub holder_count : T (takes_count o (pair_selector o (dictionary_word o c) i) (argument_count o (pair_method o (dictionary_word o c) i)))
  holder_count = and_right (eqb (home o (pair_method o (dictionary_word o c) i)) c) (takes_count o (pair_selector o (dictionary_word o c) i) (argument_count o (pair_method o (dictionary_word o c) i))) at_pair

module _ (e : ℕ) {o : Objects} (six : T (rule6 e o)) {counts : List ℕ} {k i : ℕ} (so_far : Counting o counts k i) where
  -- one more pair: of class c, object k
  module _ (c : ℕ) (isC : T (is_kind o class_kind c)) (here : object_number c ≡ k) (l : i < pair_count o (dictionary_word o c)) (long : o.n < length counts) where
    abbrev s : ℕ
    s = pair_selector o (dictionary_word o c) i

    abbrev m : ℕ
    m = pair_method o (dictionary_word o c) i

    selector_named : Named o bytes_kind s
    selector_named = named o bytes_kind s (pair_at e o six c i isC l).selector

    -- another home
    pub wrong_home : home o m ≢ c → Turned o k (i + 1) counts false
    unfolding Turned
    wrong_home h t = h (holder_home o t c i isC l)

    -- another count under the same selector
    pub wrong_count : (counts' : List ℕ) → Noted counts (object_number s) (argument_count o m + 1) counts' false → Turned o k (i + 1) counts' false
    unfolding Noted Turned
    wrong_count counts' n t = go (get_or counts (object_number s) 0) refl
      where
        go : (v : ℕ) → get_or counts (object_number s) 0 ≡ v → ⊥
        go zero e = n.0 e
        go (suc a) e =
            let h = so_far.only (object_number s) a e in
            let q = takes_at o s (argument_count o m) (holder_count o t c i isC l) h.class h.index h.is_class h.inside (h.named ∙ pointer_of s selector_named.even) in
            n.1 (e ∙ (let z = h.takes in omega arith))

    -- the count is noted
    pub right_count : home o m ≡ c → (counts' : List ℕ) → Noted counts (object_number s) (argument_count o m + 1) counts' true → Turned o k (i + 1) counts' true
    unfolding Noted Turned
    right_count hm counts' n = record { passed = passed'; only = only' }
      where
        j : ℕ
        j = object_number s

        note : ℕ
        note = argument_count o m + 1

        inside : j < length counts
        inside = let h = selector_named.most in omega arith

        here_note : get_or counts' j 0 ≡ note
        here_note = ap (λ (x : List ℕ). get_or x j 0) n.0 ∙ get_or-set_same counts j note 0 inside

        -- what was noted stays
        kept : (x a : ℕ) → get_or counts x 0 ≡ suc a → Dec (x ≡ j) → get_or counts' x 0 ≡ suc a
        kept x a e (no d) = ap (λ (z : List ℕ). get_or z x 0) n.0 ∙ get_or-set_other counts j x note 0 d ∙ e
        kept x a e (yes d) = ap (λ (y : ℕ). get_or counts' y 0) d ∙ here_note ∙ same n.1
          where
            same : (get_or counts j 0 ≡ 0) ⊎ (get_or counts j 0 ≡ note) → note ≡ suc a
            same (inl z) = absurd (let w : get_or counts j 0 ≡ suc a = ap (λ (y : ℕ). get_or counts y 0) (sym d) ∙ e in omega arith)
            same (inr z) = sym z ∙ ap (λ (y : ℕ). get_or counts y 0) (sym d) ∙ e

        this : PairRight o counts' c i
        this = record { homes = hm; noted = here_note ∙ omega arith }

        passed' : (x y : ℕ) → T (is_kind o class_kind x) → y < pair_count o (dictionary_word o x) → (object_number x < k) ⊎ ((object_number x ≡ k) × (y < i + 1)) → PairRight o counts' x y
        passed' x y a b w = go w (ℕ_discrete y i)
          where
            old : (object_number x < k) ⊎ ((object_number x ≡ k) × (y < i)) → PairRight o counts' x y
            old z = let p = so_far.passed x y a b z in record {
              homes = p.homes;
              noted = kept (object_number (pair_selector o (dictionary_word o x) y))
                  (argument_count o (pair_method o (dictionary_word o x) y)) p.noted (ℕ_discrete (object_number (pair_selector o (dictionary_word o x) y)) j);
            }

            same_class : object_number x ≡ k → x ≡ c
            same_class q = let p = named o class_kind x a in let p' = named o class_kind c isC in let e = p.even in let e' = p'.even in omega arith

            go : (object_number x < k) ⊎ ((object_number x ≡ k) × (y < i + 1)) → Dec (y ≡ i) → PairRight o counts' x y
            go (inl z) d = old (inl z)
            go (inr z) (no d) = old (inr (z.0, omega arith))
            go (inr z) (yes d) =
                subst (λ (u : ℕ). PairRight o counts' u y) (sym (same_class z.0)) (subst (λ (u : ℕ). PairRight o counts' c u) (sym d) this)

        only' : (x a : ℕ) → get_or counts' x 0 ≡ suc a → Counted o (pointer x) a
        only' x a e = go (ℕ_discrete x j)
          where
            go : Dec (x ≡ j) → Counted o (pointer x) a
            go (no d) = so_far.only x a (sym (get_or-set_other counts j x note 0 d) ∙ ap (λ (z : List ℕ). get_or z x 0) (sym n.0) ∙ e)
            go (yes d) =
                record {
                  class = c;
                  index = i;
                  is_class = isC;
                  inside = l;
                  named = sym (ap pointer d ∙ pointer_of s selector_named.even);
                  takes = suc_inj
                      (sym (ap (λ (y : ℕ). get_or counts' y 0) d ∙ here_note ∙ omega arith) ∙ e);
                }

-- ---- the loops

-- all pairs of object k are passed
pub next_class : (o : Objects) (counts : List ℕ) (k i : ℕ) → Counting o counts k i → ((c j : ℕ) → T (is_kind o class_kind c) → object_number c ≡ k
    → j < pair_count o (dictionary_word o c) → j < i) → Counting o counts (k + 1) 0
next_class o counts k i w all =
    record { passed = λ c j a b x. w.passed c j a b (go c j a b x); only = w.only }
  where
    go : (c j : ℕ) → T (is_kind o class_kind c) → j < pair_count o (dictionary_word o c) → (object_number c < k + 1) ⊎ ((object_number c ≡ k + 1) × (j < 0))
        → (object_number c < k) ⊎ ((object_number c ≡ k) × (j < i))
    go c j a b (inl x) = by (dec_lt (object_number c) k)
      where
        by : Dec (object_number c < k) → (object_number c < k) ⊎ ((object_number c ≡ k) × (j < i))
        by (yes h) = inl h
        by (no h) = let e : object_number c ≡ k = omega arith in inr (e, all c j a e b)
    go c j a b (inr x) = absurd (omega arith)

pub none_counted : (o : Objects) (counts : List ℕ) → ((j : ℕ) → get_or counts j 0 ≡ 0) → Counting o counts 1 0
none_counted o counts z =
    record { passed = λ c j a b x. absurd (go c j a x); only = λ j a e. absurd (let w = z j in omega arith) }
  where
    go : (c j : ℕ) → T (is_kind o class_kind c) → (object_number c < 1) ⊎ ((object_number c ≡ 1) × (j < 0)) → ⊥
    go c j a (inl x) = let h = (named o class_kind c a).least in omega arith
    go c j a (inr x) = omega arith

-- all classes are passed
pub all_counted : (o : Objects) (counts : List ℕ) (k : ℕ) → o.n < k → Counting o counts k 0 → Held o counts true
unfolding Held holders holder_fine dictionary_methods_fine
all_counted o counts k h w = (at_up_to o.n (holder_fine o) class_fine, counts_right)
  where
    pair : (c j : ℕ) → T (is_kind o class_kind c) → j < pair_count o (dictionary_word o c) → PairRight o counts c j
    pair c j a b = w.passed c j a b (inl (let m = (named o class_kind c a).most in omega arith))

    counts_right : Counts o counts
    counts_right = record { each = λ c j a b. (pair c j a b).noted; only = w.only }

    class_fine : (x : ℕ) → 1 ≤ x → x ≤ o.n → T (holder_fine o x)
    class_fine x a b =
        implying (eqb (kind o x) class_kind) (dictionary_methods_fine o (pointer x))
        (λ q.
        let c : ℕ = pointer x in
        let isC = subst (λ (z : ℕ). T (is_kind o z c)) (eqb→eq (kind o x) class_kind q) (naming o (kind o x) c (named_pointer o x a b)) in
        at_below (pair_count o (dictionary_word o c)) (λ j. eqb (home o (pair_method o (dictionary_word o c) j)) c && takes_count o
        (pair_selector o (dictionary_word o c) j) (argument_count o (pair_method o (dictionary_word o c) j)))
        (λ j l. and_both (eqb (home o (pair_method o (dictionary_word o c) j)) c) (takes_count o (pair_selector o (dictionary_word o c) j) (argument_count o (pair_method o (dictionary_word o c) j)))
        (true→T (eq-eqb (home o (pair_method o (dictionary_word o c) j)) c (pair c j isC l).homes))
        (at_takes o (pair_selector o (dictionary_word o c) j) (argument_count o (pair_method o (dictionary_word o c) j))
        (λ y i' u v e. suc_inj (sym (pair y i' u v).noted ∙ ap (λ (z : ℕ). get_or counts (object_number z) 0) e ∙ (pair c j isC l).noted)))))
