-- Objects that extend right ones are right where their layout, the words of their fields and their new objects are.
use Prim.Native.Nat.{ℕ, ◌+◌, ◌-◌, ◌*◌, ◌/◌, ◌%◌, ◌≤◌, ◌<◌}
use mathlib.Core.Path.{◌≡◌, sym, ap, ap₂, ◌∙◌, subst}
use mathlib.Core.Logic.{◌≢◌, ◌⊎◌, inl, inr}
use mathlib.Core.Bool.{Bool, true, false, ◌&&◌, ◌||◌, not}
use native.Mathlib.Omega.{arith}
use native.Mathlib.Decide.{ℕ_discrete, dec_le}
use borrow.Author.Tests.{eq-eqb}
use lib.Dec.{T, T_not, leb, ltb, eqb, ltb→lt, lt→ltb, eqb→eq}
use lib.ListN.{length}
use Rattle.bytecode.specs.Test.{up_to, below, every, implies, all_of}
use Rattle.bytecode.specs.Constant.{nil_word}
use Rattle.bytecode.proofs.TestLaws.{true→T, and_both, or_cases, rule, rules, at_up_to, at_below}
use Rattle.model.specs.Limits.{has_messages, failure_selector_object, message_class_object, array_class_object, message_fields, fixed_form, indexed_form}
use Rattle.model.specs.Limits.{entry_words, other_form, nil_object, false_object, true_object, integer_class_object, selectors_object, special_selectors, fields_kind, bytes_kind, class_kind, list_kind, method_kind, bytes_form, most_fields, longest_chain, last_form, field_flag, primitive_flag}
use Rattle.model.specs.Word.{is_integer, is_natural, is_valid, pointer, integer_class, failure_selector, message_class, array_class}
use Rattle.model.specs.Objects.{Objects, entry_word, class_word, kind, start, size, body_words, body_end, body_word, body_of, is_kind, is_nil_or, superclass_word, dictionary_word, field_count, form, pair_count, pair_selector, pair_method}
use Rattle.model.specs.Method.{home, literal, flag, literal_count, argument_count}
use Rattle.model.specs.Depth.{is_some}
use Rattle.model.specs.Rules.{sizes_fine, layout_rules, rule4, words_fine, rule5, rule14, fits, entry_fine, pair_fine, dictionary_fine, class_rules, message_object_rules, known_object_rules, object_fine, rule6, takes_count, extension_fine, method_rules, dictionary_methods_fine, failure_methods_fine, rule7}
use Rattle.model.proofs.ChainLaws.{named}
use Rattle.model.proofs.Parts.{◌also◌, implying, every_more, below_same}
use Rattle.model.proofs.Facts.{Right, Padded, Layout, layout_rules_lem, words_rule, Fits, fixed, indexed, bytes, other, fits_rule, naming, named_pointer, valid_kind, least, layout, inside, word_valid, chains_rule, chain_ends, entry_class, entry_fits, known, known_facts, message_least, message_rules, message_class_lem, array_class_lem, failure_count_lem, integer_class_lem, class_rules_lem, class_facts, method_rules_lem, method_facts, pair_facts, fine_methods}
use Rattle.model.proofs.Extends.{Extends, words_same, valid_grows, kind_kept, kind_same, nil_or_same, body_same, class_word_same, superclass_same, dictionary_same, fields_same, form_same, pair_count_same, pair_selector_same, pair_method_same, method_size_same, header_same, home_same, home_fields_same, flag_same, temporaries_same, literal_count_same, literal_same, extension_same, arguments_same, runs_same}
use Rattle.model.proofs.Unchanged.{implies_same, ends_same, count_same, table_same}

-- what a change has to show besides
pub record Renewed (e : ℕ) (o o' : Objects) : Type 0 where
  pub contents : length o'.contents ≡ entry_words * o'.n
  pub bodies : length o'.bodies ≡ o'.b
  pub sizes : T (sizes_fine e o'.n o'.b)
  pub last : start o' o'.n + body_words o' o'.n ≡ o'.b
  pub padded : (k : ℕ) → 1 ≤ k → k ≤ o.n → Padded o' k
  pub fields : (k i : ℕ) → 1 ≤ k → k ≤ o'.n → kind o' k ≡ fields_kind → i < body_words o' k → T (is_valid o'.n (body_word o' k i))
  pub laid : (k : ℕ) → o.n < k → k ≤ o'.n → Layout o' k
  pub room : (k : ℕ) → o.n < k → k ≤ o'.n → start o' k + body_words o' k ≤ o'.b
  pub classes : (k : ℕ) → o.n < k → k ≤ o'.n → T (is_kind o' class_kind (class_word o' k))
  pub fitting : (k : ℕ) → o.n < k → k ≤ o'.n → Fits o' k (class_word o' k)

moved : {a b : Bool} → a ≡ b → T b → T a
moved p t = subst T (sym p) t

is_class : (o : Objects) (w : ℕ) → T (is_nil_or o class_kind w) → w ≢ nil_word → T (is_kind o class_kind w)
is_class o w t h = go (or_cases (eqb w nil_word) (is_kind o class_kind w) t)
  where
    go : T (eqb w nil_word) ⊎ T (is_kind o class_kind w) → T (is_kind o class_kind w)
    go (inl a) = absurd (h (eqb→eq w nil_word a))
    go (inr b) = b

module _ {e : ℕ} {o o' : Objects} (x : Extends o o') (r : Right e o) where
  -- classes keep their rules
  pair_kept : (c i : ℕ) → T (is_kind o class_kind c) → i < pair_count o (dictionary_word o c) → T (pair_fine o' (dictionary_word o c) i)
  unfolding pair_fine
  pair_kept c i t l =
      let d : ℕ = dictionary_word o c in
      let q = (class_facts r c t).dictionary in
      let p = pair_facts r c i t l in
      let s : pair_selector o' d i ≡ pair_selector o d i = pair_selector_same x r d i q l in
      and_both (is_kind o' bytes_kind (pair_selector o' d i)) (is_kind o' method_kind (pair_method o' d i) && implies (ltb 0 i) (ltb (pair_selector o' d (i - 1)) (pair_selector o' d i)))
      (moved (ap (is_kind o' bytes_kind) s) (kind_kept x bytes_kind (pair_selector o d i) p.selector))
      (and_both (is_kind o' method_kind (pair_method o' d i)) (implies (ltb 0 i) (ltb (pair_selector o' d (i - 1)) (pair_selector o' d i)))
      (moved (ap (is_kind o' method_kind) (pair_method_same x r d i q l)) (kind_kept x method_kind (pair_method o d i) p.method))
      (implying (ltb 0 i) (ltb (pair_selector o' d (i - 1)) (pair_selector o' d i))
      (λ h. let b : pair_selector o' d (i - 1) ≡ pair_selector o d (i - 1) = pair_selector_same x r d (i - 1) q (omega arith) in
      moved (ap₂ ltb b s) (lt→ltb (pair_selector o d (i - 1)) (pair_selector o d i) (p.rises (ltb→lt 0 i h))))))

  dictionary_kept : (c : ℕ) → T (is_kind o class_kind c) → T (dictionary_fine o' (dictionary_word o c))
  unfolding dictionary_fine
  dictionary_kept c t =
      let d : ℕ = dictionary_word o c in
      let q = (class_facts r c t).dictionary in
      let h = named o list_kind d q in
      and_both (eqb (size o' (d / 2) % 2) 0) (below (pair_count o' d) (pair_fine o' d))
      (moved (ap (λ (z : ℕ). eqb (z % 2) 0) (x.entries (d / 2) 3 h.least h.most (omega arith))) (true→T (eq-eqb (size o (d / 2) % 2) 0 (class_facts r c t).even)))
      (moved (ap (λ (z : ℕ). below z (pair_fine o' d)) (pair_count_same x r d q)) (at_below (pair_count o d) (pair_fine o' d) (λ i l. pair_kept c i t l)))

  class_kept : (c : ℕ) → T (is_kind o class_kind c) → T (all_of (class_rules e o' c))
  unfolding class_rules
  class_kept c t =
      let s = superclass_same x r c t in
      let d = dictionary_same x r c t in
      let f = class_facts r c t in
      let old = class_rules_lem r c t in
      rules (class_rules e o' c)
      (moved (ap (is_nil_or o' class_kind) s ∙ nil_or_same x class_kind (superclass_word o c) (omega arith) (omega arith)) f.superclass
      also moved (ap (is_kind o' list_kind) d) (kind_kept x list_kind (dictionary_word o c) f.dictionary)
      also moved (ap (is_natural most_fields) (class_word_same x r c 2 t (omega arith))) (rule (class_rules e o c) old 2)
      also moved (ap (is_natural (last_form e)) (class_word_same x r c 3 t (omega arith))) (rule (class_rules e o c) old 3)
      also moved (ap₂ (λ (a b : ℕ). implies (leb bytes_form a) (eqb b 0)) (form_same x r c t) (fields_same x r c t)) (rule (class_rules e o c) old 4)
      also moved (implies_same (not (eqb (superclass_word o c) nil_word)) (not (eqb (superclass_word o' c) nil_word)) (leb (field_count o (superclass_word o c))
      (field_count o c)) (leb (field_count o' (superclass_word o' c)) (field_count o' c)) (ap (λ (w : ℕ). not (eqb w nil_word)) s)
      (λ q. ap₂ leb (ap (field_count o') s ∙ fields_same x r (superclass_word o c) (is_class o (superclass_word o c) f.superclass
      (λ h. T_not (eqb (superclass_word o c) nil_word) q (true→T (eq-eqb (superclass_word o c) nil_word h))))) (fields_same x r c t)))
      (rule (class_rules e o c) old 5)
      also moved (ap (dictionary_fine o') d) (dictionary_kept c t)
      also tt)

  -- methods keep theirs
  method_kept : (m : ℕ) → T (is_kind o method_kind m) → T (all_of (method_rules e o' m))
  unfolding method_rules
  method_kept m t =
      let f = method_facts r m t in
      let old = method_rules_lem r m t in
      let l = literal_count_same x r m t in
      rules (method_rules e o' m)
      (moved (ap (leb 4) (method_size_same x r m t)) (rule (method_rules e o m) old 0)
      also moved (ap is_integer (header_same x r m t)) (rule (method_rules e o m) old 1)
      also moved (ap₂ (λ (a b : ℕ). leb (4 + 2 * a) b) l (method_size_same x r m t)) (rule (method_rules e o m) old 2)
      also moved (ap (is_kind o' class_kind) (home_same x r m t)) (kind_kept x class_kind (home o m) f.homes)
      also moved (ap (λ (z : ℕ). below z (λ i. is_valid o'.n (literal o' m i))) l)
      (at_below (literal_count o m) (λ i. is_valid o'.n (literal o' m i)) (λ i h. moved (ap (is_valid o'.n) (literal_same x r m t i h)) (valid_grows x (literal o m i) (f.literals i h))))
      also moved (ap₂ (λ (a : ℕ) (b : Bool). implies (eqb a field_flag) b) (flag_same x r m t) (ap₂ ltb (temporaries_same x r m t) (home_fields_same x r m t))) (rule (method_rules e o m) old 5)
      also moved (implies_same (eqb (flag o m) primitive_flag) (eqb (flag o' m) primitive_flag) (extension_fine o m) (extension_fine o' m) (ap (λ (a : ℕ). eqb a primitive_flag) (flag_same x r m t))
      (λ q. ap₂ (λ (a b : ℕ). leb 2 a && (is_integer b && ltb b 16384)) l (extension_same x r m t (eqb→eq (flag o m) primitive_flag q))))
      (rule (method_rules e o m) old 6)
      also moved (ap₂ leb (arguments_same x r m t) (temporaries_same x r m t)) (rule (method_rules e o m) old 7)
      also moved (ap₂ implies (runs_same x r m t) (ap is_some (table_same x r m t))) (rule (method_rules e o m) old 8)
      also tt)

  abbrev homes : Objects → ℕ → ℕ → ℕ → Bool
  homes y c d i = eqb (home y (pair_method y d i)) c && takes_count y (pair_selector y d i) (argument_count y (pair_method y d i))

  methods_kept : (c : ℕ) → T (is_kind o class_kind c) → T (dictionary_methods_fine o' c)
  unfolding dictionary_methods_fine
  methods_kept c t =
      let d : ℕ = dictionary_word o c in
      let q = (class_facts r c t).dictionary in
      moved (ap (λ (w : ℕ). below (pair_count o' w) (homes o' c w)) (dictionary_same x r c t)
      ∙ ap (λ (z : ℕ). below z (homes o' c d)) (pair_count_same x r d q)
      ∙ below_same (pair_count o d) (homes o c d) (homes o' c d)
      (λ i l. let m = pair_method_same x r d i q l in
      let k = (pair_facts r c i t l).method in
      ap₂ (λ (a : ℕ) (b : Bool). eqb a c && b) (ap (home o') m ∙ home_same x r (pair_method o d i) k)
      (ap₂ (takes_count o') (pair_selector_same x r d i q l) (ap (argument_count o') m ∙ arguments_same x r (pair_method o d i) k)
      ∙ count_same x r (pair_selector o d i) (argument_count o (pair_method o d i)))))
      (fine_methods r c t)

  -- an object of a class's, list's or method's kind is an old one
  old_kind : (k kd : ℕ) → class_kind ≤ kd → kd ≤ method_kind → 1 ≤ k → k ≤ o'.n → kind o' k ≡ kd → T (is_kind o kd (pointer k))
  old_kind k kd l u h g p =
      subst T (kind_same x kd (pointer k) l u) (subst (λ (z : ℕ). T (is_kind o' z (pointer k))) p (naming o' (kind o' k) (pointer k) (named_pointer o' k h g)))

  rule_14_kept : T (rule14 o')
  rule_14_kept = chains_rule o' (λ c t. moved (ends_same x r longest_chain c) (chain_ends r c (subst T (kind_same x class_kind c (omega arith) (omega arith)) t)))

  pub rule_7_kept : T (rule7 e o')
  unfolding rule7 failure_methods_fine
  rule_7_kept =
      and_both (up_to o'.n (λ k. implies (eqb (kind o' k) method_kind) (all_of (method_rules e o' (pointer k))) && implies (eqb (kind o' k) class_kind) (dictionary_methods_fine o' (pointer k))))
      (failure_methods_fine e o')
      (at_up_to o'.n (λ k. implies (eqb (kind o' k) method_kind) (all_of (method_rules e o' (pointer k))) && implies (eqb (kind o' k) class_kind) (dictionary_methods_fine o' (pointer k)))
      (λ k h g. and_both (implies (eqb (kind o' k) method_kind) (all_of (method_rules e o' (pointer k)))) (implies (eqb (kind o' k) class_kind) (dictionary_methods_fine o' (pointer k)))
      (implying (eqb (kind o' k) method_kind) (all_of (method_rules e o' (pointer k))) (λ q. method_kept (pointer k)
      (old_kind k method_kind (omega arith) (omega arith) h g (eqb→eq (kind o' k) method_kind q))))
      (implying (eqb (kind o' k) class_kind) (dictionary_methods_fine o' (pointer k)) (λ q. methods_kept (pointer k)
      (old_kind k class_kind (omega arith) (omega arith) h g (eqb→eq (kind o' k) class_kind q))))))
      (implying (has_messages e) (takes_count o' failure_selector 1) (λ q. moved (count_same x r failure_selector 1) (failure_count_lem r q)))

  -- the objects of messages
  messages_kept : T (has_messages e) → T (all_of (message_object_rules o'))
  unfolding message_object_rules
  messages_kept t =
      let l = message_least r t in
      let m = message_rules r t in
      let same : (k : ℕ) → 1 ≤ k → k ≤ 8 → kind o' k ≡ kind o k = λ k a b. x.entries k 1 a (omega arith) (omega arith) in
      rules (message_object_rules o')
      (moved (ap (λ (z : ℕ). eqb z bytes_kind) (same failure_selector_object (omega arith) (omega arith))) (rule (message_object_rules o) m 0)
      also moved (ap (λ (z : ℕ). eqb z class_kind) (same message_class_object (omega arith) (omega arith))) (rule (message_object_rules o) m 1)
      also moved (ap (λ (z : ℕ). eqb z fixed_form) (form_same x r message_class (message_class_lem r t))) (rule (message_object_rules o) m 2)
      also moved (ap (λ (z : ℕ). eqb z message_fields) (fields_same x r message_class (message_class_lem r t))) (rule (message_object_rules o) m 3)
      also moved (ap (λ (z : ℕ). eqb z class_kind) (same array_class_object (omega arith) (omega arith))) (rule (message_object_rules o) m 4)
      also moved (ap (λ (z : ℕ). eqb z indexed_form) (form_same x r array_class (array_class_lem r t))) (rule (message_object_rules o) m 5)
      also moved (ap (λ (z : ℕ). eqb z 0) (fields_same x r array_class (array_class_lem r t))) (rule (message_object_rules o) m 6)
      also tt)

  -- the known objects
  known_kept : T (all_of (known_object_rules e o'))
  unfolding known_object_rules
  known_kept =
      let l = least r in
      let same : (k i : ℕ) → 1 ≤ k → k ≤ 5 → i < entry_words → entry_word o' k i ≡ entry_word o k i = λ k i a b c. x.entries k i a (omega arith) c in
      let list = (known_facts r).selectors in
      rules (known_object_rules e o')
      (moved (ap (λ (z : ℕ). eqb z fields_kind) (same nil_object 1 (omega arith) (omega arith) (omega arith))) (rule (known_object_rules e o) (known r) 0)
      also moved (ap (λ (z : ℕ). eqb z fields_kind) (same false_object 1 (omega arith) (omega arith) (omega arith))) (rule (known_object_rules e o) (known r) 1)
      also moved (ap (λ (z : ℕ). eqb z fields_kind) (same true_object 1 (omega arith) (omega arith) (omega arith))) (rule (known_object_rules e o) (known r) 2)
      also moved (ap (λ (z : ℕ). eqb z class_kind) (same integer_class_object 1 (omega arith) (omega arith) (omega arith))) (rule (known_object_rules e o) (known r) 3)
      also moved (ap (λ (z : ℕ). eqb z other_form) (form_same x r integer_class (integer_class_lem r))) (rule (known_object_rules e o) (known r) 4)
      also moved (ap (λ (z : ℕ). eqb z list_kind) (same selectors_object 1 (omega arith) (omega arith) (omega arith))) (rule (known_object_rules e o) (known r) 5)
      also moved (ap (λ (z : ℕ). eqb z special_selectors) (same selectors_object 3 (omega arith) (omega arith) (omega arith))) (rule (known_object_rules e o) (known r) 6)
      also moved (ap (every (is_nil_or o' bytes_kind)) (body_same x r selectors_object (omega arith) (omega arith) (omega arith)))
      (every_more (is_nil_or o bytes_kind) (is_nil_or o' bytes_kind) (body_of o selectors_object) (λ w. selector w) (rule (known_object_rules e o) (known r) 7))
      also implying (has_messages e) (all_of (message_object_rules o')) (λ q. messages_kept q)
      also tt)
    where
      selector : (w : ℕ) → T (is_nil_or o bytes_kind w) → T (is_nil_or o' bytes_kind w)
      selector w t = go (eqb w nil_word) t
        where
          go : (b : Bool) → T (b || is_kind o bytes_kind w) → T (b || is_kind o' bytes_kind w)
          go true q = tt
          go false q = kind_kept x bytes_kind w q

  module _ (y : Renewed e o o') where
    -- an old entry, or a new one
    entry_at : (P : ℕ → Type 0) → ((k : ℕ) → 1 ≤ k → k ≤ o.n → P k) → ((k : ℕ) → o.n < k → k ≤ o'.n → P k) → (k : ℕ) → 1 ≤ k → k ≤ o'.n → P k
    entry_at P old new k h g = go (dec_le k o.n)
      where
        go : Dec (k ≤ o.n) → P k
        go (yes q) = old k h q
        go (no q) = new k (omega arith) g

    layout_kept : (k : ℕ) → 1 ≤ k → k ≤ o.n → Layout o' k
    layout_kept k h g =
        let f = layout r k h g in
        let kd : kind o' k ≡ kind o k = x.entries k 1 h g (omega arith) in
        let st : start o' k ≡ start o k = x.entries k 2 h g (omega arith) in
        let sz : size o' k ≡ size o k = x.entries k 3 h g (omega arith) in
        record {
          kinds = subst (λ (z : ℕ). z ≤ method_kind) (sym kd) f.kinds;
          first = λ p. st ∙ f.first p;
          next = λ p. st ∙ f.next p ∙ sym (ap₂ ◌+◌ (x.entries (k - 1) 2 (omega arith) (omega arith) (omega arith)) (words_same x (k - 1) (omega arith) (omega arith)));
          four = λ p. sz ∙ f.four (sym kd ∙ p);
          padded = y.padded k h g;
        }

    laid_out : (k : ℕ) → 1 ≤ k → k ≤ o'.n → Layout o' k
    laid_out = entry_at (Layout o') layout_kept y.laid

    rule_4_kept : T (rule4 e o')
    unfolding rule4
    rule_4_kept =
        and_both (up_to o'.n (λ k. all_of (layout_rules e o' k))) (eqb (body_end o' o'.n) o'.b)
        (at_up_to o'.n (λ k. all_of (layout_rules e o' k)) (λ k h g. layout_rules_lem e o' k (laid_out k h g)))
        (true→T (eq-eqb (body_end o' o'.n) o'.b y.last))

    inside_kept : (k : ℕ) → 1 ≤ k → k ≤ o.n → body_end o' k ≤ length o'.bodies
    inside_kept k h g =
        let a = inside r k h g in
        let b = r.bodies in
        let c = x.longer in
        let s : start o' k ≡ start o k = x.entries k 2 h g (omega arith) in
        let w = words_same x k h g in
        omega arith

    inside_new : (k : ℕ) → o.n < k → k ≤ o'.n → body_end o' k ≤ length o'.bodies
    inside_new k h g = let a = y.room k h g in let b = y.bodies in omega arith

    classes_kept : (k : ℕ) → 1 ≤ k → k ≤ o.n → T (is_kind o' class_kind (class_word o' k))
    classes_kept k h g = moved (ap (is_kind o' class_kind) (x.entries k 0 h g (omega arith))) (kind_kept x class_kind (class_word o k) (entry_class r k h g))

    is_classed : (k : ℕ) → 1 ≤ k → k ≤ o'.n → T (is_kind o' class_kind (class_word o' k))
    is_classed = entry_at (λ k. T (is_kind o' class_kind (class_word o' k))) classes_kept y.classes

    word_kept : (k : ℕ) → 1 ≤ k → k ≤ o'.n → kind o' k ≢ bytes_kind → kind o' k ≢ method_kind → (i : ℕ) → i < body_words o' k → T (is_valid o'.n (body_word o' k i))
    word_kept k h g a b i l = go (ℕ_discrete (kind o' k) fields_kind) (dec_le k o.n)
      where
        go : Dec (kind o' k ≡ fields_kind) → Dec (k ≤ o.n) → T (is_valid o'.n (body_word o' k i))
        go (yes p) q = y.fields k i h g p l
        go (no p) (no q) = let z = x.new k (omega arith) g (omega arith) in let m = (laid_out k h g).kinds in absurd (omega arith)
        go (no p) (yes q) =
            let kd : kind o' k ≡ kind o k = x.entries k 1 h q (omega arith) in
            let w = words_same x k h q in
            moved (ap (is_valid o'.n) (x.bodies k i h q (omega arith) (omega arith))) (valid_grows x (body_word o k i) (word_valid r k i h q (omega arith) (omega arith) (omega arith)))

    rule_5_kept : T (rule5 e o')
    unfolding rule5
    rule_5_kept =
        at_up_to o'.n (words_fine o')
        (λ k h g. words_rule o' k (entry_at (λ k. body_end o' k ≤ length o'.bodies) inside_kept inside_new k h g) (valid_kind o' class_kind (class_word o' k) (is_classed k h g)) (word_kept k h g))

    -- an object fits its class as before
    fits_kept : (k : ℕ) → 1 ≤ k → k ≤ o.n → Fits o' k (class_word o' k)
    fits_kept k h g = subst (Fits o' k) (sym (x.entries k 0 h g (omega arith))) (go (entry_fits r k h g))
      where
        c : ℕ
        c = class_word o k

        fm : form o' c ≡ form o c
        fm = form_same x r c (entry_class r k h g)

        fc : field_count o' c ≡ field_count o c
        fc = fields_same x r c (entry_class r k h g)

        kd : kind o' k ≡ kind o k
        kd = x.entries k 1 h g (omega arith)

        sz : size o' k ≡ size o k
        sz = x.entries k 3 h g (omega arith)

        go : Fits o k c → Fits o' k c
        go (fixed p q s) = fixed (fm ∙ p) (kd ∙ q) (sz ∙ s ∙ sym fc)
        go (indexed p q s) = let a = fc in let b = sz in indexed (fm ∙ p) (kd ∙ q) (omega arith)
        go (bytes p q) = bytes (fm ∙ p) (kd ∙ q)
        go (other p q) = let a = fm in let b = kd in other (omega arith) (omega arith)

    rule_6_kept : T (rule6 e o')
    unfolding rule6 object_fine entry_fine
    rule_6_kept =
        and_both (all_of (known_object_rules e o')) (up_to o'.n (object_fine e o')) known_kept
        (at_up_to o'.n (object_fine e o')
        (λ k h g. and_both (entry_fine e o' k) (implies (eqb (kind o' k) class_kind) (all_of (class_rules e o' (pointer k))))
        (and_both (is_kind o' class_kind (class_word o' k)) (fits e o' k) (is_classed k h g) (fits_rule e o' k (laid_out k h g).kinds
        (entry_at (λ k. Fits o' k (class_word o' k)) fits_kept y.fitting k h g)))
        (implying (eqb (kind o' k) class_kind) (all_of (class_rules e o' (pointer k))) (λ q. class_kept (pointer k)
        (old_kind k class_kind (omega arith) (omega arith) h g (eqb→eq (kind o' k) class_kind q))))))

    pub right_kept : Right e o'
    right_kept =
        record { edition = r.edition; contents = y.contents; bodies = y.bodies; sizes = y.sizes; rule_4 = rule_4_kept; rule_5 = rule_5_kept; rule_14 = rule_14_kept; rule_6 = rule_6_kept; rule_7 = rule_7_kept }
