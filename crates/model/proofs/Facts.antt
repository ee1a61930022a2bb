-- A right image, and what its rules say of objects, classes, methods and dictionaries (01, "Image").
use Prim.Native.Nat.{ℕ, zero, suc, ◌+◌, ◌-◌, ◌*◌, ◌/◌, ◌%◌, ◌≤◌, ◌<◌}
use mathlib.Core.Path.{◌≡◌, refl, sym, ap, ap₂, ◌∙◌, subst}
use mathlib.Core.Logic.{◌≢◌, ◌⊎◌, inl, inr}
use mathlib.Core.Bool.{Bool, true, false, ◌&&◌, ◌||◌, not}
use native.Mathlib.Omega.{arith}
use native.Mathlib.Decide.{ℕ_discrete}
use borrow.Author.Tests.{eq-eqb, ne_eqb, eqb-true, eqb-false, ltb-true, ltb-false}
use lib.Dec.{T, T_not, not_T, leb, ltb, eqb, leb→le, le→leb, ltb→lt, lt→ltb, eqb→eq}
use lib.ListN.{length}
use Rattle.bytecode.specs.Test.{when◌then◌else◌, up_to, every, implies, all_of}
use Rattle.bytecode.specs.Constant.{nil_word}
use Rattle.bytecode.proofs.Choice.{if_yes, if_no, if_cases}
use Rattle.bytecode.proofs.TestLaws.{true→T, T→true, and_left, and_right, and_both, or_cases, implied, rule, rules, up_to_at, at_up_to, below_at, every_at, at_every}
use Rattle.model.specs.Limits.{has_messages, failure_selector_object, message_class_object, array_class_object, message_fields}
use Rattle.model.specs.Limits.{least_objects, most_objects, most_body_words, fields_kind, bytes_kind, class_kind, list_kind, method_kind, last_form, fixed_form, indexed_form, bytes_form, other_form, class_words, most_fields, longest_chain, nil_object, false_object, true_object, integer_class_object, selectors_object, special_selectors, field_flag, primitive_flag}
use Rattle.model.specs.Word.{is_integer, is_pointer, is_valid, pointer, object_number, integer_class, failure_selector, message_class, array_class}
use Rattle.model.specs.Objects.{Objects, class_word, kind, start, size, sized_in_bytes, body_words, body_end, body_word, body_of, is_kind, is_nil_or, superclass_word, dictionary_word, fields_word, form_word, field_count, form, pair_count, pair_selector, pair_method}
use Rattle.model.specs.Method.{header, home, literal, flag, temporary_count, literal_count, extension, argument_count, runs_code}
use Rattle.model.specs.Lookup.{ends_within}
use Rattle.model.specs.Depth.{is_some}
use Rattle.model.specs.Rules.{start_fine_of, padding_fine, layout_rules, rule4, words_fine, rule5, chain_fine, rule14, fits, entry_fine, pair_fine, dictionary_fine, class_rules, message_object_rules, known_object_rules, object_fine, rule6, takes_count, method_table, extension_fine, method_rules, dictionary_methods_fine, failure_methods_fine, rule7}
pub use Rattle.model.specs.Rules.{Right}
use Rattle.model.proofs.ChainLaws.{Named, named}
use Rattle.model.proofs.Parts.{◌also◌, implying, or_left, or_right, length_part, part_at}

-- Words: the name of an object, a valid word
pub naming : (o : Objects) (k w : ℕ) → Named o k w → T (is_kind o k w)
unfolding is_kind is_pointer
naming o k w h =
    and_both (eqb (w % 2) 0 && (leb 1 (w / 2) && leb (w / 2) o.n)) (eqb (kind o (w / 2)) k)
    (and_both (eqb (w % 2) 0) (leb 1 (w / 2) && leb (w / 2) o.n) (true→T (eq-eqb (w % 2) 0 h.even))
    (and_both (leb 1 (w / 2)) (leb (w / 2) o.n) (le→leb 1 (w / 2) h.least) (le→leb (w / 2) o.n h.most)))
    (true→T (eq-eqb (kind o (w / 2)) k h.kinds))

-- the object k, by its word
pub named_pointer : (o : Objects) (k : ℕ) → 1 ≤ k → k ≤ o.n → Named o (kind o k) (pointer k)
named_pointer o k h g =
    record { even = omega arith; least = omega arith; most = omega arith; kinds = ap (kind o) (half k) }
  where
    half : (k : ℕ) → 2 * k / 2 ≡ k
    half k = omega arith

pub pointer_of : (w : ℕ) → w % 2 ≡ 0 → pointer (object_number w) ≡ w
pointer_of w h = omega arith

pub data Valid (n w : ℕ) : Type 0 where
  odd : w % 2 ≡ 1 → Valid n w
  names : w % 2 ≡ 0 → 1 ≤ w / 2 → w / 2 ≤ n → Valid n w

pub valid_cases : (n w : ℕ) → T (is_valid n w) → Valid n w
unfolding is_valid is_pointer
valid_cases n w t = go (or_cases (is_integer w) (eqb (w % 2) 0 && (leb 1 (w / 2) && leb (w / 2) n)) t)
  where
    go : T (is_integer w) ⊎ T (eqb (w % 2) 0 && (leb 1 (w / 2) && leb (w / 2) n)) → Valid n w
    go (inl a) = odd (eqb→eq (w % 2) 1 a)
    go (inr b) =
        let q : T (leb 1 (w / 2) && leb (w / 2) n) = and_right (eqb (w % 2) 0) (leb 1 (w / 2) && leb (w / 2) n) b in
        names (eqb→eq (w % 2) 0 (and_left (eqb (w % 2) 0) (leb 1 (w / 2) && leb (w / 2) n) b)) (leb→le 1 (w / 2) (and_left (leb 1 (w / 2)) (leb (w / 2) n) q))
        (leb→le (w / 2) n (and_right (leb 1 (w / 2)) (leb (w / 2) n) q))

pub valid_odd : (n w : ℕ) → w % 2 ≡ 1 → T (is_valid n w)
unfolding is_valid
valid_odd n w h = or_left (is_integer w) (is_pointer n w) (true→T (eq-eqb (w % 2) 1 h))

pub valid_name : (n w : ℕ) → w % 2 ≡ 0 → 1 ≤ w / 2 → w / 2 ≤ n → T (is_valid n w)
unfolding is_valid is_pointer
valid_name n w a b c =
    or_right (is_integer w) (eqb (w % 2) 0 && (leb 1 (w / 2) && leb (w / 2) n))
    (and_both (eqb (w % 2) 0) (leb 1 (w / 2) && leb (w / 2) n) (true→T (eq-eqb (w % 2) 0 a))
    (and_both (leb 1 (w / 2)) (leb (w / 2) n) (le→leb 1 (w / 2) b) (le→leb (w / 2) n c)))

pub valid_more : (n k w : ℕ) → n ≤ k → T (is_valid n w) → T (is_valid k w)
valid_more n k w h t = go (valid_cases n w t)
  where
    go : Valid n w → T (is_valid k w)
    go (odd a) = valid_odd k w a
    go (names a b c) = valid_name k w a b (omega arith)

pub valid_kind : (o : Objects) (k w : ℕ) → T (is_kind o k w) → T (is_valid o.n w)
valid_kind o k w t = let h = named o k w t in valid_name o.n w h.even h.least h.most

-- The words of a body by its kind
pub in_words : (o : Objects) (k : ℕ) → kind o k ≢ bytes_kind → kind o k ≢ method_kind → body_words o k ≡ size o k
unfolding body_words
in_words o k a b = if_no _ _ (ap₂ ◌||◌ (ne_eqb (kind o k) bytes_kind a) (ne_eqb (kind o k) method_kind b))

pub in_bytes : (o : Objects) (k : ℕ) → T (sized_in_bytes (kind o k)) → body_words o k ≡ (size o k + 1) / 2
unfolding body_words
in_bytes o k t = if_yes _ _ (T→true (sized_in_bytes (kind o k)) t)

pub bytes_cases : (k : ℕ) → T (sized_in_bytes k) → (k ≡ bytes_kind) ⊎ (k ≡ method_kind)
bytes_cases k t = go (or_cases (eqb k bytes_kind) (eqb k method_kind) t)
  where
    go : T (eqb k bytes_kind) ⊎ T (eqb k method_kind) → (k ≡ bytes_kind) ⊎ (k ≡ method_kind)
    go (inl a) = inl (eqb→eq k bytes_kind a)
    go (inr b) = inr (eqb→eq k method_kind b)

-- a kind is sized in bytes or in words
pub sized_at : (k m : ℕ) → k ≡ m → T (sized_in_bytes m) → T (sized_in_bytes k)
sized_at k m e t = subst (λ (x : ℕ). T (sized_in_bytes x)) (sym e) t

pub not_sized : (k : ℕ) → T (not (sized_in_bytes k)) → (k ≢ bytes_kind) × (k ≢ method_kind)
not_sized k t = (λ e. T_not (sized_in_bytes k) t (sized_at k bytes_kind e tt), λ e. T_not (sized_in_bytes k) t (sized_at k method_kind e tt))

-- Rule 4
abbrev pub Padded : Objects → ℕ → Type 0
Padded o k = T (sized_in_bytes (kind o k)) → size o k % 2 ≡ 1 → body_word o k (body_words o k - 1) % 256 ≡ 0

pub record Layout (o : Objects) (k : ℕ) : Type 0 where
  pub kinds : kind o k ≤ method_kind
  pub first : k ≡ 1 → start o k ≡ 0
  pub next : k ≢ 1 → start o k ≡ start o (k - 1) + body_words o (k - 1)
  pub four : kind o k ≡ class_kind → size o k ≡ class_words
  pub padded : Padded o k

pub layout_facts : (e : ℕ) (o : Objects) (k : ℕ) → T (all_of (layout_rules e o k)) → Layout o k
unfolding layout_rules start_fine_of padding_fine
layout_facts e o k t =
    record {
      kinds = leb→le (kind o k) method_kind (rule (layout_rules e o k) t 0);
      first = λ h. eqb→eq (start o k) 0 (subst T (if_yes _ _ (eq-eqb k 1 h)) (rule (layout_rules e o k) t 1));
      next = λ h. eqb→eq (start o k) (body_end o (k - 1)) (subst T (if_no _ _ (ne_eqb k 1 h)) (rule (layout_rules e o k) t 1));
      four = λ h. eqb→eq (size o k) class_words (implied (eqb (kind o k) class_kind) _ (rule (layout_rules e o k) t 2) (true→T (eq-eqb (kind o k) class_kind h)));
      padded = λ a b. eqb→eq _ 0 (implied (sized_in_bytes (kind o k) && eqb (size o k % 2) 1) _ (rule (layout_rules e o k) t 3)
          (and_both (sized_in_bytes (kind o k)) (eqb (size o k % 2) 1) a (true→T (eq-eqb (size o k % 2) 1 b))));
    }

pub layout_rules_lem : (e : ℕ) (o : Objects) (k : ℕ) → Layout o k → T (all_of (layout_rules e o k))
unfolding layout_rules start_fine_of padding_fine
layout_rules_lem e o k h =
    rules (layout_rules e o k)
    (le→leb (kind o k) method_kind h.kinds
    also if_cases T (eqb k 1) (eqb (start o k) 0) (eqb (start o k) (body_end o (k - 1))) (λ q. true→T (eq-eqb (start o k) 0 (h.first (eqb-true k 1 q))))
    (λ q. true→T (eq-eqb (start o k) (body_end o (k - 1)) (h.next (eqb-false k 1 q))))
    also implying (eqb (kind o k) class_kind) (eqb (size o k) class_words) (λ q. true→T (eq-eqb (size o k) class_words (h.four (eqb→eq (kind o k) class_kind q))))
    also implying (sized_in_bytes (kind o k) && eqb (size o k % 2) 1) (eqb (body_word o k (body_words o k - 1) % 256) 0) padding
    also tt)
  where
    padding : T (sized_in_bytes (kind o k) && eqb (size o k % 2) 1) → T (eqb (body_word o k (body_words o k - 1) % 256) 0)
    padding q =
        true→T (eq-eqb (body_word o k (body_words o k - 1) % 256) 0
        (h.padded (and_left (sized_in_bytes (kind o k)) (eqb (size o k % 2) 1) q) (eqb→eq (size o k % 2) 1 (and_right (sized_in_bytes (kind o k)) (eqb (size o k % 2) 1) q))))

-- Rule 5, word by word
pub words_rule : (o : Objects) (k : ℕ) → body_end o k ≤ length o.bodies → T (is_valid o.n (class_word o k))
    → (kind o k ≢ bytes_kind → kind o k ≢ method_kind → (i : ℕ) → i < body_words o k → T (is_valid o.n (body_word o k i))) → T (words_fine o k)
unfolding words_fine body_of
words_rule o k h c f =
    and_both (is_valid o.n (class_word o k)) (implies (not (sized_in_bytes (kind o k))) (every (is_valid o.n) (body_of o k))) c
    (implying (not (sized_in_bytes (kind o k))) (every (is_valid o.n) (body_of o k)) body)
  where
    long : length (body_of o k) ≡ body_words o k
    long = length_part o.bodies (start o k) (body_words o k) h

    body : T (not (sized_in_bytes (kind o k))) → T (every (is_valid o.n) (body_of o k))
    body q =
        at_every (is_valid o.n) (body_of o k)
        (λ i l. subst (λ (w : ℕ). T (is_valid o.n w)) (sym (part_at o.bodies (start o k) (body_words o k) i (omega (arith, long))))
        (f (not_sized (kind o k) q).0 (not_sized (kind o k) q).1 i (omega (arith, long))))

-- The form of an object's class
pub data Fits (o : Objects) (k c : ℕ) : Type 0 where
  fixed : form o c ≡ fixed_form → kind o k ≡ fields_kind → size o k ≡ field_count o c → Fits o k c
  indexed : form o c ≡ indexed_form → kind o k ≡ fields_kind → field_count o c ≤ size o k → Fits o k c
  bytes : form o c ≡ bytes_form → kind o k ≡ bytes_kind → Fits o k c
  other : form o c ≡ other_form → class_kind ≤ kind o k → Fits o k c

pub fits_cases : (e : ℕ) (o : Objects) (k : ℕ) → T (fits e o k) → Fits o k (class_word o k)
unfolding fits
fits_cases e o k t = go (eqb (form o c) fixed_form) (eqb (form o c) indexed_form) (eqb (form o c) bytes_form) (eqb (form o c) other_form) refl refl refl refl t
  where
    c : ℕ
    c = class_word o k

    go : (x y z v : Bool) → eqb (form o c) fixed_form ≡ x → eqb (form o c) indexed_form ≡ y → eqb (form o c) bytes_form ≡ z → eqb (form o c) other_form ≡ v
        → T (when x then eqb (kind o k) fields_kind && eqb (size o k) (field_count o c) else
        when y then eqb (kind o k) fields_kind && leb (field_count o c) (size o k) else
        when z then eqb (kind o k) bytes_kind else
        when v then leb class_kind (kind o k) && leb (kind o k) method_kind else false) → Fits o k c
    go true y z v p q r m s =
        fixed (eqb-true (form o c) fixed_form p) (eqb→eq (kind o k) fields_kind (and_left (eqb (kind o k) fields_kind) (eqb (size o k) (field_count o c)) (subst T (if_yes _ _ refl) s)))
        (eqb→eq (size o k) (field_count o c) (and_right (eqb (kind o k) fields_kind) (eqb (size o k) (field_count o c)) (subst T (if_yes _ _ refl) s)))
    go false true z v p q r m s =
        let s' : T (eqb (kind o k) fields_kind && leb (field_count o c) (size o k)) = subst T (if_no _ _ refl ∙ if_yes _ _ refl) s in
        indexed (eqb-true (form o c) indexed_form q) (eqb→eq (kind o k) fields_kind (and_left (eqb (kind o k) fields_kind) (leb (field_count o c) (size o k)) s'))
        (leb→le (field_count o c) (size o k) (and_right (eqb (kind o k) fields_kind) (leb (field_count o c) (size o k)) s'))
    go false false true v p q r m s =
        bytes (eqb-true (form o c) bytes_form r) (eqb→eq (kind o k) bytes_kind (subst T (if_no _ _ refl ∙ if_no _ _ refl ∙ if_yes _ _ refl) s))
    go false false false true p q r m s =
        other (eqb-true (form o c) other_form m)
        (leb→le class_kind (kind o k) (and_left (leb class_kind (kind o k)) (leb (kind o k) method_kind)
        (subst T (if_no _ _ refl ∙ if_no _ _ refl ∙ if_no _ _ refl ∙ if_yes _ _ refl) s)))
    go false false false false p q r m s = absurd (subst T (if_no _ _ refl ∙ if_no _ _ refl ∙ if_no _ _ refl ∙ if_no _ _ refl) s)

pub fits_rule : (e : ℕ) (o : Objects) (k : ℕ) → kind o k ≤ method_kind → Fits o k (class_word o k) → T (fits e o k)
unfolding fits
fits_rule e o k h (fixed a b c) =
    subst T (sym (if_yes _ _ (eq-eqb (form o (class_word o k)) fixed_form a)))
    (and_both (eqb (kind o k) fields_kind) (eqb (size o k) (field_count o (class_word o k))) (true→T (eq-eqb (kind o k) fields_kind b)) (true→T (eq-eqb (size o k) (field_count o (class_word o k)) c)))
fits_rule e o k h (indexed a b c) =
    subst T (sym (if_no _ _ (ne_eqb (form o (class_word o k)) fixed_form (omega arith)) ∙ if_yes _ _ (eq-eqb (form o (class_word o k)) indexed_form a)))
    (and_both (eqb (kind o k) fields_kind) (leb (field_count o (class_word o k)) (size o k)) (true→T (eq-eqb (kind o k) fields_kind b)) (le→leb (field_count o (class_word o k)) (size o k) c))
fits_rule e o k h (bytes a b) =
    subst T (sym (if_no _ _ (ne_eqb (form o (class_word o k)) fixed_form (omega arith)) ∙ if_no _ _ (ne_eqb (form o (class_word o k)) indexed_form (omega arith))
    ∙ if_yes _ _ (eq-eqb (form o (class_word o k)) bytes_form a)))
    (true→T (eq-eqb (kind o k) bytes_kind b))
fits_rule e o k h (other a b) =
    subst T (sym (if_no _ _ (ne_eqb (form o (class_word o k)) fixed_form (omega arith)) ∙ if_no _ _ (ne_eqb (form o (class_word o k)) indexed_form (omega arith))
    ∙ if_no _ _ (ne_eqb (form o (class_word o k)) bytes_form (omega arith)) ∙ if_yes _ _ (eq-eqb (form o (class_word o k)) other_form a)))
    (and_both (leb class_kind (kind o k)) (leb (kind o k) method_kind) (le→leb class_kind (kind o k) b) (le→leb (kind o k) method_kind h))

-- Rule 14
pub short_chain : (o : Objects) → T (rule14 o) → (c : ℕ) → T (is_kind o class_kind c) → T (ends_within longest_chain o c)
unfolding rule14 chain_fine
short_chain o t c q =
    let h = named o class_kind c q in
    subst (λ (w : ℕ). T (ends_within longest_chain o w)) (pointer_of c h.even)
    (implied (eqb (kind o (c / 2)) class_kind) (ends_within longest_chain o (pointer (c / 2))) (up_to_at o.n (chain_fine o) t (c / 2) h.least h.most)
    (true→T (eq-eqb (kind o (c / 2)) class_kind h.kinds)))

pub chains_rule : (o : Objects) → ((c : ℕ) → T (is_kind o class_kind c) → T (ends_within longest_chain o c)) → T (rule14 o)
unfolding rule14 chain_fine
chains_rule o f =
    at_up_to o.n (chain_fine o) (λ k h g. implying (eqb (kind o k) class_kind) (ends_within longest_chain o (pointer k))
    (λ q. f (pointer k) (subst (λ (z : ℕ). T (is_kind o z (pointer k))) (eqb→eq (kind o k) class_kind q) (naming o (kind o k) (pointer k) (named_pointer o k h g)))))

-- Rule 6: a pair of a dictionary, a class, the known objects
pub record PairFacts (o : Objects) (d i : ℕ) : Type 0 where
  pub selector : T (is_kind o bytes_kind (pair_selector o d i))
  pub method : T (is_kind o method_kind (pair_method o d i))
  pub rises : 0 < i → pair_selector o d (i - 1) < pair_selector o d i

pub pair_facts_of : (o : Objects) (d i : ℕ) → T (pair_fine o d i) → PairFacts o d i
unfolding pair_fine
pair_facts_of o d i t =
    let q : T (is_kind o method_kind (pair_method o d i) && implies (ltb 0 i) (ltb (pair_selector o d (i - 1)) (pair_selector o d i))) = and_right (is_kind o bytes_kind (pair_selector o d i)) _ t in
    record {
      selector = and_left (is_kind o bytes_kind (pair_selector o d i)) _ t;
      method = and_left (is_kind o method_kind (pair_method o d i)) _ q;
      rises = λ h. ltb→lt (pair_selector o d (i - 1)) (pair_selector o d i) (implied (ltb 0 i) _ (and_right (is_kind o method_kind (pair_method o d i)) _ q) (lt→ltb 0 i h));
    }

pub record ClassFacts (e : ℕ) (o : Objects) (c : ℕ) : Type 0 where
  pub superclass : T (is_nil_or o class_kind (superclass_word o c))
  pub dictionary : T (is_kind o list_kind (dictionary_word o c))
  pub fields : field_count o c ≤ most_fields
  pub fields_tag : fields_word o c % 2 ≡ 1
  pub forms : form o c ≤ last_form e
  pub form_tag : form_word o c % 2 ≡ 1
  pub none : bytes_form ≤ form o c → field_count o c ≡ 0
  pub rises : superclass_word o c ≢ nil_word → field_count o (superclass_word o c) ≤ field_count o c
  pub even : size o (object_number (dictionary_word o c)) % 2 ≡ 0
  pub pairs : (i : ℕ) → i < pair_count o (dictionary_word o c) → PairFacts o (dictionary_word o c) i

pub class_facts_of : (e : ℕ) (o : Objects) (c : ℕ) → T (all_of (class_rules e o c)) → ClassFacts e o c
unfolding class_rules dictionary_fine
class_facts_of e o c t =
    record {
      superclass = rule (class_rules e o c) t 0;
      dictionary = rule (class_rules e o c) t 1;
      fields = leb→le (field_count o c) most_fields (and_right (is_integer (fields_word o c)) _ (rule (class_rules e o c) t 2));
      fields_tag = eqb→eq (fields_word o c % 2) 1 (and_left (is_integer (fields_word o c)) _ (rule (class_rules e o c) t 2));
      forms = leb→le (form o c) (last_form e) (and_right (is_integer (form_word o c)) _ (rule (class_rules e o c) t 3));
      form_tag = eqb→eq (form_word o c % 2) 1 (and_left (is_integer (form_word o c)) _ (rule (class_rules e o c) t 3));
      none = λ h. eqb→eq (field_count o c) 0 (implied (leb bytes_form (form o c)) _ (rule (class_rules e o c) t 4) (le→leb bytes_form (form o c) h));
      rises = λ h. leb→le (field_count o (superclass_word o c)) (field_count o c) (implied (not (eqb (superclass_word o c) nil_word)) _
          (rule (class_rules e o c) t 5) (not_T (eqb (superclass_word o c) nil_word) (λ q. h (eqb→eq (superclass_word o c) nil_word q))));
      even = eqb→eq (size o (object_number (dictionary_word o c)) % 2) 0 (and_left (eqb (size o (object_number (dictionary_word o c)) % 2) 0) _ (rule (class_rules e o c) t 6));
      pairs = λ i l. pair_facts_of o (dictionary_word o c) i (below_at (pair_count o (dictionary_word o c)) (pair_fine o (dictionary_word o c))
          (and_right (eqb (size o (object_number (dictionary_word o c)) % 2) 0) _ (rule (class_rules e o c) t 6)) i l);
    }

pub record KnownFacts (o : Objects) : Type 0 where
  pub nil : kind o nil_object ≡ fields_kind
  pub falses : kind o false_object ≡ fields_kind
  pub trues : kind o true_object ≡ fields_kind
  pub integers : kind o integer_class_object ≡ class_kind
  pub integer_form : form o integer_class ≡ other_form
  pub selectors : kind o selectors_object ≡ list_kind
  pub selectors_size : size o selectors_object ≡ special_selectors

pub known_facts_of : (e : ℕ) (o : Objects) → T (all_of (known_object_rules e o)) → KnownFacts o
unfolding known_object_rules
known_facts_of e o t =
    record {
      nil = eqb→eq (kind o nil_object) fields_kind (rule (known_object_rules e o) t 0);
      falses = eqb→eq (kind o false_object) fields_kind (rule (known_object_rules e o) t 1);
      trues = eqb→eq (kind o true_object) fields_kind (rule (known_object_rules e o) t 2);
      integers = eqb→eq (kind o integer_class_object) class_kind (rule (known_object_rules e o) t 3);
      integer_form = eqb→eq (form o integer_class) other_form (rule (known_object_rules e o) t 4);
      selectors = eqb→eq (kind o selectors_object) list_kind (rule (known_object_rules e o) t 5);
      selectors_size = eqb→eq (size o selectors_object) special_selectors (rule (known_object_rules e o) t 6);
    }

-- Rule 7: a method
pub record Extended (o : Objects) (m : ℕ) : Type 0 where
  pub two : 2 ≤ literal_count o m
  pub tag : extension o m % 2 ≡ 1
  pub small : extension o m < 16384

pub record MethodFacts (e : ℕ) (o : Objects) (m : ℕ) : Type 0 where
  pub long : 4 ≤ size o (object_number m)
  pub tag : header o m % 2 ≡ 1
  pub holds : 4 + 2 * literal_count o m ≤ size o (object_number m)
  pub homes : T (is_kind o class_kind (home o m))
  pub literals : (i : ℕ) → i < literal_count o m → T (is_valid o.n (literal o m i))
  pub field : flag o m ≡ field_flag → temporary_count o m < field_count o (home o m)
  pub extended : flag o m ≡ primitive_flag → Extended o m
  pub arguments : argument_count o m ≤ temporary_count o m
  pub sound : T (runs_code o m) → T (is_some (method_table e o m))

pub extended_facts : (o : Objects) (m : ℕ) → T (extension_fine o m) → Extended o m
extended_facts o m t =
    let q : T (is_integer (extension o m) && ltb (extension o m) 16384) = and_right (leb 2 (literal_count o m)) (is_integer (extension o m) && ltb (extension o m) 16384) t in
    record {
      two = leb→le 2 (literal_count o m) (and_left (leb 2 (literal_count o m)) (is_integer (extension o m) && ltb (extension o m) 16384) t);
      tag = eqb→eq (extension o m % 2) 1 (and_left (is_integer (extension o m)) (ltb (extension o m) 16384) q);
      small = ltb→lt (extension o m) 16384 (and_right (is_integer (extension o m)) (ltb (extension o m) 16384) q);
    }

pub method_facts_of : (e : ℕ) (o : Objects) (m : ℕ) → T (all_of (method_rules e o m)) → MethodFacts e o m
unfolding method_rules
method_facts_of e o m t =
    record {
      long = leb→le 4 (size o (object_number m)) (rule (method_rules e o m) t 0);
      tag = eqb→eq (header o m % 2) 1 (rule (method_rules e o m) t 1);
      holds = leb→le (4 + 2 * literal_count o m) (size o (object_number m)) (rule (method_rules e o m) t 2);
      homes = rule (method_rules e o m) t 3;
      literals = λ i h. below_at (literal_count o m) (λ j. is_valid o.n (literal o m j)) (rule (method_rules e o m) t 4) i h;
      field = λ h. ltb→lt (temporary_count o m) (field_count o (home o m)) (implied (eqb (flag o m) field_flag) _ (rule (method_rules e o m) t 5) (true→T (eq-eqb (flag o m) field_flag h)));
      extended = λ h. extended_facts o m (implied (eqb (flag o m) primitive_flag) _ (rule (method_rules e o m) t 6) (true→T (eq-eqb (flag o m) primitive_flag h)));
      arguments = leb→le (argument_count o m) (temporary_count o m) (rule (method_rules e o m) t 7);
      sound = implied (runs_code o m) _ (rule (method_rules e o m) t 8);
    }

-- What an edition asks for: the five objects of the first, and those of messages
pub five_least : (e : ℕ) → 5 ≤ least_objects e
unfolding least_objects
five_least e = if_cases (λ (k : ℕ). 5 ≤ k) (has_messages e) 8 5 (λ p. omega arith) (λ p. omega arith)

pub eight_least : (e : ℕ) → T (has_messages e) → least_objects e ≡ 8
unfolding least_objects
eight_least e t = if_yes 8 5 (T→true (has_messages e) t)

-- 02, M-104: the objects of messages
pub record MessageFacts (o : Objects) : Type 0 where
  pub selector : kind o failure_selector_object ≡ bytes_kind
  pub message : kind o message_class_object ≡ class_kind
  pub message_form : form o message_class ≡ fixed_form
  pub message_fields_lem : field_count o message_class ≡ message_fields
  pub array : kind o array_class_object ≡ class_kind
  pub array_form : form o array_class ≡ indexed_form
  pub array_fields : field_count o array_class ≡ 0

message_facts_of : (o : Objects) → T (all_of (message_object_rules o)) → MessageFacts o
unfolding message_object_rules
message_facts_of o t =
    record {
      selector = eqb→eq (kind o failure_selector_object) bytes_kind (rule (message_object_rules o) t 0);
      message = eqb→eq (kind o message_class_object) class_kind (rule (message_object_rules o) t 1);
      message_form = eqb→eq (form o message_class) fixed_form (rule (message_object_rules o) t 2);
      message_fields_lem = eqb→eq (field_count o message_class) message_fields (rule (message_object_rules o) t 3);
      array = eqb→eq (kind o array_class_object) class_kind (rule (message_object_rules o) t 4);
      array_form = eqb→eq (form o array_class) indexed_form (rule (message_object_rules o) t 5);
      array_fields = eqb→eq (field_count o array_class) 0 (rule (message_object_rules o) t 6);
    }

module _ {e : ℕ} {o : Objects} (r : Right e o) where
  pub least_of : least_objects e ≤ o.n
  least_of = leb→le (least_objects e) o.n (and_left (leb (least_objects e) o.n) (leb o.n most_objects && leb o.b most_body_words) r.sizes)

  pub least : 5 ≤ o.n
  least = let l = five_least e in let m = least_of in omega arith

  pub message_least : T (has_messages e) → 8 ≤ o.n
  message_least t = let l = eight_least e t in let m = least_of in omega arith

  pub most : o.n ≤ most_objects
  most =
      leb→le o.n most_objects (and_left (leb o.n most_objects) (leb o.b most_body_words) (and_right (leb (least_objects e) o.n) (leb o.n most_objects && leb o.b most_body_words) r.sizes))

  pub most_words : o.b ≤ most_body_words
  most_words =
      leb→le o.b most_body_words (and_right (leb o.n most_objects) (leb o.b most_body_words) (and_right (leb (least_objects e) o.n)
      (leb o.n most_objects && leb o.b most_body_words) r.sizes))

  -- layout
  pub layout : (k : ℕ) → 1 ≤ k → k ≤ o.n → Layout o k
  unfolding rule4
  layout k h g =
      layout_facts e o k (up_to_at o.n (λ k. all_of (layout_rules e o k)) (and_left (up_to o.n (λ k. all_of (layout_rules e o k))) (eqb (body_end o o.n) o.b) r.rule_4) k h g)

  pub last_end : start o o.n + body_words o o.n ≡ o.b
  unfolding rule4
  last_end = eqb→eq (body_end o o.n) o.b (and_right (up_to o.n (λ k. all_of (layout_rules e o k))) (eqb (body_end o o.n) o.b) r.rule_4)

  -- a body ends before a later one begins, and the last at b
  apart_by : (k d : ℕ) → 1 ≤ k → k + suc d ≤ o.n → start o k + body_words o k ≤ start o (k + suc d)
  apart_by k zero h g =
      let l : start o (k + 1) ≡ start o (k + 1 - 1) + body_words o (k + 1 - 1) = (layout (k + 1) (omega arith) g).next (omega arith) in
      let s : start o (k + 1 - 1) + body_words o (k + 1 - 1) ≡ start o k + body_words o k = ap (body_end o) (before k) in
      omega arith
    where
      before : (k : ℕ) → k + 1 - 1 ≡ k
      before k = omega arith
  apart_by k (suc d) h g =
      let ih : start o k + body_words o k ≤ start o (k + suc d) = apart_by k d h (omega arith) in
      let l : start o (k + suc (suc d)) ≡ start o (k + suc (suc d) - 1) + body_words o (k + suc (suc d) - 1) = (layout (k + suc (suc d)) (omega arith) g).next (omega arith) in
      let s : start o (k + suc (suc d) - 1) + body_words o (k + suc (suc d) - 1) ≡ start o (k + suc d) + body_words o (k + suc d) = ap (body_end o) (before k d) in
      omega arith
    where
      before : (k d : ℕ) → k + suc (suc d) - 1 ≡ k + suc d
      before k d = omega arith

  pub apart : (k j : ℕ) → 1 ≤ k → k < j → j ≤ o.n → start o k + body_words o k ≤ start o j
  apart k j h l g = subst (λ (x : ℕ). start o k + body_words o k ≤ start o x) there (apart_by k (j - suc k) h (omega arith))
    where
      there : k + suc (j - suc k) ≡ j
      there = omega arith

  pub inside : (k : ℕ) → 1 ≤ k → k ≤ o.n → start o k + body_words o k ≤ o.b
  inside k h g = go (ℕ_discrete k o.n)
    where
      go : Dec (k ≡ o.n) → start o k + body_words o k ≤ o.b
      go (yes q) = subst (λ (x : ℕ). start o x + body_words o x ≤ o.b) (sym q) (omega (arith, last_end))
      go (no q) = let a = apart k o.n h (omega arith) (omega arith) in let l = last_end in omega arith

  -- entries
  fine_words : (k : ℕ) → 1 ≤ k → k ≤ o.n → T (words_fine o k)
  unfolding rule5
  fine_words k h g = up_to_at o.n (words_fine o) r.rule_5 k h g

  -- each word of a body of kind 0, 2 or 3 is valid
  pub word_valid : (k i : ℕ) → 1 ≤ k → k ≤ o.n → kind o k ≢ bytes_kind → kind o k ≢ method_kind → i < body_words o k → T (is_valid o.n (body_word o k i))
  unfolding words_fine body_of
  word_valid k i h g a b l =
      let t = fine_words k h g in
      let q : T (implies (not (sized_in_bytes (kind o k))) (every (is_valid o.n) (body_of o k))) = and_right (is_valid o.n (class_word o k)) _ t in
      let v : T (every (is_valid o.n) (body_of o k)) = implied (not (sized_in_bytes (kind o k))) _ q (not_T (sized_in_bytes (kind o k)) no_bytes) in
      subst (λ (w : ℕ). T (is_valid o.n w)) (part_at o.bodies (start o k) (body_words o k) i l)
      (every_at (is_valid o.n) (body_of o k) v i (omega (arith, length_part o.bodies (start o k) (body_words o k) room)))
    where
      room : start o k + body_words o k ≤ length o.bodies
      room = let q = inside k h g in let s = r.bodies in omega arith

      no_bytes : T (sized_in_bytes (kind o k)) → ⊥
      no_bytes t = go (bytes_cases (kind o k) t)
        where
          go : (kind o k ≡ bytes_kind) ⊎ (kind o k ≡ method_kind) → ⊥
          go (inl x) = a x
          go (inr x) = b x

  fine_object : (k : ℕ) → 1 ≤ k → k ≤ o.n → T (object_fine e o k)
  unfolding rule6
  fine_object k h g = up_to_at o.n (object_fine e o) (and_right (all_of (known_object_rules e o)) (up_to o.n (object_fine e o)) r.rule_6) k h g

  fine_entry : (k : ℕ) → 1 ≤ k → k ≤ o.n → T (entry_fine e o k)
  unfolding object_fine
  fine_entry k h g = and_left (entry_fine e o k) _ (fine_object k h g)

  -- each entry's class is a class, and the object fits it
  pub entry_class : (k : ℕ) → 1 ≤ k → k ≤ o.n → T (is_kind o class_kind (class_word o k))
  unfolding entry_fine
  entry_class k h g = and_left (is_kind o class_kind (class_word o k)) (fits e o k) (fine_entry k h g)

  pub entry_fits : (k : ℕ) → 1 ≤ k → k ≤ o.n → Fits o k (class_word o k)
  unfolding entry_fine
  entry_fits k h g = fits_cases e o k (and_right (is_kind o class_kind (class_word o k)) (fits e o k) (fine_entry k h g))

  pub known : T (all_of (known_object_rules e o))
  unfolding rule6
  known = and_left (all_of (known_object_rules e o)) (up_to o.n (object_fine e o)) r.rule_6

  -- chains
  pub chain_ends : (c : ℕ) → T (is_kind o class_kind c) → T (ends_within longest_chain o c)
  chain_ends c t = short_chain o r.rule_14 c t

  -- classes
  pub class_rules_lem : (c : ℕ) → T (is_kind o class_kind c) → T (all_of (class_rules e o c))
  unfolding object_fine
  class_rules_lem c t =
      let h = named o class_kind c t in
      let q = and_right (entry_fine e o (c / 2)) (implies (eqb (kind o (c / 2)) class_kind) (all_of (class_rules e o (pointer (c / 2))))) (fine_object (c / 2) h.least h.most) in
      subst (λ (x : ℕ). T (all_of (class_rules e o x))) (pointer_of c h.even) (implied (eqb (kind o (c / 2)) class_kind)
      (all_of (class_rules e o (pointer (c / 2)))) q (true→T (eq-eqb (kind o (c / 2)) class_kind h.kinds)))

  pub class_facts : (c : ℕ) → T (is_kind o class_kind c) → ClassFacts e o c
  class_facts c t = class_facts_of e o c (class_rules_lem c t)

  pub class_words_lem : (c : ℕ) → T (is_kind o class_kind c) → body_words o (c / 2) ≡ class_words
  class_words_lem c t =
      let h = named o class_kind c t in
      in_words o (c / 2) (omega (arith, h.kinds)) (omega (arith, h.kinds)) ∙ (layout (c / 2) h.least h.most).four h.kinds

  pub known_facts : KnownFacts o
  known_facts = known_facts_of e o known

  -- the objects of messages, in editions that have them
  pub message_rules : T (has_messages e) → T (all_of (message_object_rules o))
  unfolding known_object_rules
  message_rules t = implied (has_messages e) (all_of (message_object_rules o)) (rule (known_object_rules e o) known 8) t

  pub message_facts : T (has_messages e) → MessageFacts o
  message_facts t = message_facts_of o (message_rules t)

  pub message_class_lem : T (has_messages e) → T (is_kind o class_kind message_class)
  message_class_lem t = let l = message_least t in naming o class_kind message_class (record { even = omega arith; least = omega arith; most = omega arith; kinds = (message_facts t).message })

  pub array_class_lem : T (has_messages e) → T (is_kind o class_kind array_class)
  array_class_lem t = let l = message_least t in naming o class_kind array_class (record { even = omega arith; least = omega arith; most = omega arith; kinds = (message_facts t).array })

  -- nil is no class, the class of integers is one
  pub nil_no_class : T (is_kind o class_kind nil_word) → ⊥
  nil_no_class t = let h = named o class_kind nil_word t in let k : kind o 1 ≡ 0 = known_facts.nil in let q : kind o 1 ≡ 2 = h.kinds in omega arith

  pub integer_class_lem : T (is_kind o class_kind integer_class)
  integer_class_lem = let l = least in naming o class_kind integer_class (record { even = omega arith; least = omega arith; most = omega arith; kinds = known_facts.integers })

  -- the special selectors
  pub inside_selectors : (k : ℕ) → k < special_selectors → k < body_words o selectors_object
  inside_selectors k h =
      let a = known_facts.selectors in
      let b = known_facts.selectors_size in
      let w = in_words o selectors_object (omega arith) (omega arith) in
      omega arith

  pub special_valid : (k : ℕ) → k < special_selectors → T (is_valid o.n (body_word o selectors_object k))
  special_valid k h =
      let l = least in
      let a = known_facts.selectors in
      word_valid selectors_object k (omega arith) (omega arith) (omega arith) (omega arith) (inside_selectors k h)

  -- methods
  fine_seven : (k : ℕ) → 1 ≤ k → k ≤ o.n → T (implies (eqb (kind o k) method_kind) (all_of (method_rules e o (pointer k))) && implies (eqb (kind o k) class_kind) (dictionary_methods_fine o (pointer k)))
  unfolding rule7
  fine_seven k h g =
      up_to_at o.n (λ k. implies (eqb (kind o k) method_kind) (all_of (method_rules e o (pointer k))) && implies (eqb (kind o k) class_kind) (dictionary_methods_fine o (pointer k)))
      (and_left (up_to o.n _) (failure_methods_fine e o) r.rule_7) k h g

  -- methods under object 6 take one argument
  pub failure_count_lem : T (has_messages e) → T (takes_count o failure_selector 1)
  unfolding rule7 failure_methods_fine
  failure_count_lem t = implied (has_messages e) (takes_count o failure_selector 1) (and_right (up_to o.n _) (failure_methods_fine e o) r.rule_7) t

  pub method_rules_lem : (m : ℕ) → T (is_kind o method_kind m) → T (all_of (method_rules e o m))
  method_rules_lem m t =
      let h = named o method_kind m t in
      let q = and_left (implies (eqb (kind o (m / 2)) method_kind) (all_of (method_rules e o (pointer (m / 2))))) _ (fine_seven (m / 2) h.least h.most) in
      subst (λ (x : ℕ). T (all_of (method_rules e o x))) (pointer_of m h.even) (implied (eqb (kind o (m / 2)) method_kind)
      (all_of (method_rules e o (pointer (m / 2)))) q (true→T (eq-eqb (kind o (m / 2)) method_kind h.kinds)))

  pub method_facts : (m : ℕ) → T (is_kind o method_kind m) → MethodFacts e o m
  method_facts m t = method_facts_of e o m (method_rules_lem m t)

  pub method_words : (m : ℕ) → T (is_kind o method_kind m) → body_words o (m / 2) ≡ (size o (m / 2) + 1) / 2
  method_words m t = in_bytes o (m / 2) (sized_at (kind o (m / 2)) method_kind (named o method_kind m t).kinds tt)

  -- dictionaries
  pub list_words : (d : ℕ) → T (is_kind o list_kind d) → body_words o (d / 2) ≡ size o (d / 2)
  list_words d t = let h = named o list_kind d t in in_words o (d / 2) (omega (arith, h.kinds)) (omega (arith, h.kinds))

  pub pair_facts : (c i : ℕ) → T (is_kind o class_kind c) → i < pair_count o (dictionary_word o c) → PairFacts o (dictionary_word o c) i
  pair_facts c i t l = (class_facts c t).pairs i l

  -- each selector of a dictionary is below every later one
  pub selectors_rise : (c i j : ℕ) → T (is_kind o class_kind c) → i < j → j < pair_count o (dictionary_word o c)
      → pair_selector o (dictionary_word o c) i < pair_selector o (dictionary_word o c) j
  selectors_rise c i zero t h l = absurd (omega arith)
  selectors_rise c i (suc j) t h l = go (ltb i j) refl (selectors_rise c i j t)
    where
      next : pair_selector o (dictionary_word o c) j < pair_selector o (dictionary_word o c) (suc j)
      next =
          let e : suc j - 1 ≡ j = omega arith in
          subst (λ (k : ℕ). pair_selector o (dictionary_word o c) k < pair_selector o (dictionary_word o c) (suc j)) e ((pair_facts c (suc j) t l).rises (omega arith))

      go : (x : Bool) → ltb i j ≡ x → (i < j → j < pair_count o (dictionary_word o c) → pair_selector o (dictionary_word o c) i < pair_selector o (dictionary_word o c) j)
          → pair_selector o (dictionary_word o c) i < pair_selector o (dictionary_word o c) (suc j)
      go true p ih = let m = next in let r = ih (ltb-true i j p) (omega arith) in omega arith
      go false p ih =
          let q = ltb-false i j p in
          let e : j ≡ i = omega arith in
          subst (λ (k : ℕ). pair_selector o (dictionary_word o c) k < pair_selector o (dictionary_word o c) (suc j)) e next

  pub fine_methods : (c : ℕ) → T (is_kind o class_kind c) → T (dictionary_methods_fine o c)
  fine_methods c t =
      let h = named o class_kind c t in
      let q = and_right (implies (eqb (kind o (c / 2)) method_kind) (all_of (method_rules e o (pointer (c / 2))))) (implies (eqb (kind o (c / 2)) class_kind)
      (dictionary_methods_fine o (pointer (c / 2)))) (fine_seven (c / 2) h.least h.most) in
      subst (λ (x : ℕ). T (dictionary_methods_fine o x)) (pointer_of c h.even) (implied (eqb (kind o (c / 2)) class_kind)
      (dictionary_methods_fine o (pointer (c / 2))) q (true→T (eq-eqb (kind o (c / 2)) class_kind h.kinds)))

  -- a method's home is the class that holds it, and its count is that of all methods under its selector
  pub pair_home : (c i : ℕ) → T (is_kind o class_kind c) → i < pair_count o (dictionary_word o c) → home o (pair_method o (dictionary_word o c) i) ≡ c
  unfolding dictionary_methods_fine
  pair_home c i t l =
      eqb→eq (home o (pair_method o (dictionary_word o c) i)) c
      (and_left (eqb (home o (pair_method o (dictionary_word o c) i)) c) _
      (below_at (pair_count o (dictionary_word o c)) (λ i. eqb (home o (pair_method o (dictionary_word o c) i)) c && takes_count o
      (pair_selector o (dictionary_word o c) i) (argument_count o (pair_method o (dictionary_word o c) i))) (fine_methods c t) i l))
