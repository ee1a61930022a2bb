-- Elements of an object (60 to 62) by the tests of the code.
use Prim.Native.Nat.{ℕ, ◌+◌, ◌*◌, ◌-◌, ◌/◌, ◌%◌, ◌≤◌, ◌<◌}
use mathlib.Core.Path.{◌≡◌, refl, sym, ap, ap₂, ◌∙◌, subst}
use mathlib.Core.Logic.{◌≢◌, inl, inr}
use mathlib.Core.Bool.{Bool, true, false, ◌&&◌, ◌||◌}
use mathlib.Core.List.{List}
use native.Mathlib.Omega.{arith}
use borrow.Author.Tests.{eq-eqb, ne_eqb, le-leb, lt-leb}
use native.Mathlib.Decide.{dec_le}
use lib.Dec.{T, leb, eqb, eqb→eq, leb→le}
use Rattle.bytecode.proofs.Choice.{if_yes, if_no}
use Rattle.bytecode.proofs.TestLaws.{and_right, true→T, T→true, never}
use Rattle.std.specs.Prelude.{Option, Some, None}
use Rattle.std.proofs.lemmas.Option.{none-some, same_Some}
use Rattle.bytecode.specs.Test.{when◌then◌else◌}
use Rattle.model.specs.Limits.{largest_integer, most_elements, bytes_kind, bytes_form}
use Rattle.model.specs.Word.{is_natural, object_number}
use Rattle.model.specs.Objects.{Objects, objects_at, class_of, kind, size, body_words, body_word, form, is_kind, at_front}
use Rattle.model.specs.Primitive.{Outcome, answers, fails, store_word, store_byte, object_byte, element_start, element_count, has_elements, is_indexable, holds_bytes, is_index, place_of_index, at, at_put, size_answer}
use Rattle.model.proofs.Facts.{in_words, in_bytes, sized_at, class_facts}
use Rattle.model.proofs.ElementLaws.{Forms, has_forms, forms_have, Indexable, indexable_facts, facts_indexable, index_facts, bytes_kind_lem, words_kind, named_inside}
use Rattle.model.proofs.SendFacts.{class_kind_lem}
use Rattle.readers.specs.Places.{Entry, Inside}
use Rattle.objects.specs.Lent.{Holds}
use Rattle.primitives.specs.declared.Elements.{Elements}
use Rattle.primitives.specs.declared.ElementKind.{ElementKind}
use Rattle.primitives.specs.declared.ElementKind.TheVariants.{Words, Bytes}
use Rattle.primitives.specs.Outcomes.{answer_of, objects_after, Receives, Puts, kind_of_form, kind_of_elements, elements, elements_of, natural_of, index_of}
use Rattle.readers.proofs.InsideLaws.{body_inside, right_laid}
use Rattle.objects.proofs.Buffers.{contents_room, bodies_room, front_same}
use Rattle.objects.proofs.Bodies.{valid_entry}

-- What is answered where a test holds, and nothing where it does not
when_some : {A : Type 0} (t : Bool) (x y : A) → ◌≡◌ {A = Option A} (when t then Some x else None) (Some y) → (t ≡ true) × (y ≡ x)
unfolding when◌then◌else◌
when_some true x y e = (refl, sym (same_Some x y e))
when_some false x y e = absurd (none-some y e)

when_none : {A : Type 0} (t : Bool) (x : A) → ◌≡◌ {A = Option A} (when t then Some x else None) None → t ≡ false
unfolding when◌then◌else◌
when_none true x e = absurd (none-some x (sym e))
when_none false x e = refl

when_bytes : (t : Bool) → (when t then Bytes else Words) ≡ Bytes → t ≡ true
unfolding when◌then◌else◌
when_bytes true e = refl
when_bytes false e = cc

when_words : (t : Bool) → (when t then Bytes else Words) ≡ Words → t ≡ false
unfolding when◌then◌else◌
when_words true e = cc
when_words false e = refl

-- The kind of elements of a form
module _ (f : ℕ) {r : Option ElementKind} (p : r ≡ kind_of_elements f) where
  pub kind_some : {by : ElementKind} → r ≡ Some by → (has_elements f ≡ true) × (by ≡ kind_of_form f)
  unfolding kind_of_elements
  kind_some {by} q = when_some (has_elements f) (kind_of_form f) by (sym p ∙ q)

  pub kind_none : r ≡ None → has_elements f ≡ false
  unfolding kind_of_elements
  kind_none q = when_none (has_elements f) (kind_of_form f) (sym p ∙ q)

pub other_form : (f : ℕ) → f ≢ 1 → f ≢ 2 → None ≡ kind_of_elements f
unfolding kind_of_elements
other_form f d e = sym (if_no _ _ (ap₂ ◌||◌ (ne_eqb f 1 d) (ne_eqb f 2 e)))

-- The elements of a receiver, test by test
module _ (o : Objects) (w : ℕ) where
  none : (Indexable o w → ⊥) → None ≡ elements_of o w
  unfolding elements_of
  none f = sym (if_no _ _ (never (is_indexable o w) (λ t. f (indexable_facts o w t))))

  pub elements_odd : w % 2 ≡ 1 → None ≡ elements_of o w
  elements_odd h = none (λ q. q.even h)

  pub elements_large : {count : ℕ} → count ≡ element_count o w → most_elements < count → None ≡ elements_of o w
  elements_large e h = none (λ q. let l = q.small in omega arith)

  module _ {f : ℕ} (e : f ≡ form o (class_of o w)) where
    pub elements_other : has_elements f ≡ false → None ≡ elements_of o w
    elements_other p = none (λ q. subst T p (forms_have f (subst Forms (sym e) q.forms)))

    pub by_form : has_elements f ≡ true → Forms (form o (class_of o w))
    by_form p = subst Forms e (has_forms f (true→T p))

    pub elements_some : {by : ElementKind} {start count : ℕ} → w % 2 ≢ 1 → (has_elements f ≡ true) × (by ≡ kind_of_form f) → start ≡ element_start o w → count ≡ element_count o w
        → count ≤ most_elements → Some (elements by start count) ≡ elements_of o w
    unfolding elements_of
    elements_some {by} {start} {count} d p s c l =
        ap (λ (x : ElementKind). Some (elements x start count)) (p.1 ∙ ap kind_of_form e)
        ∙ ap₂ (λ (x y : ℕ). Some (elements (kind_of_form (form o (class_of o w))) x y)) s c
        ∙ sym (if_yes _ _ (T→true (is_indexable o w) (facts_indexable o w (record { even = d; forms = by_form p.0; small = omega arith }))))

-- A receiver that was taken, and how
pub record Taken (o : Objects) (w : ℕ) (e : Elements) : Type 0 where
  pub test : is_indexable o w ≡ true
  pub even : w % 2 ≢ 1
  pub forms : Forms (form o (class_of o w))
  pub by : e.by ≡ kind_of_form (form o (class_of o w))
  pub start : e.start ≡ element_start o w
  pub count : e.count ≡ element_count o w
  pub small : e.count ≤ 16383

module _ (o : Objects) (w : ℕ) {r : Option Elements} (p : r ≡ elements_of o w) where
  pub not_taken : r ≡ None → is_indexable o w ≡ false
  unfolding elements_of
  not_taken q = when_none (is_indexable o w) _ (sym p ∙ q)

module _ {o : Objects} {w : ℕ} {r : Option Elements} (p : r ≡ elements_of o w) where
  pub taken : {e : Elements} → r ≡ Some e → Taken o w e
  unfolding elements_of
  taken {e} q =
      let k = when_some (is_indexable o w) (elements (kind_of_form (form o (class_of o w))) (element_start o w) (element_count o w)) e (sym p ∙ q) in
      let h = indexable_facts o w (true→T k.0) in
      let c : e.count ≡ element_count o w = ap (λ (x : Elements). x.count) k.1 in
      let l = h.small in
      record { test = k.0; even = h.even; forms = h.forms; by = ap (λ (x : Elements). x.by) k.1; start = ap (λ (x : Elements). x.start) k.1; count = c; small = omega arith }

-- A natural number, and an index
module _ (most x : ℕ) {r : Option ℕ} (p : r ≡ natural_of most x) where
  pub natural_some : {i : ℕ} → r ≡ Some i → (is_natural most x ≡ true) × (i ≡ x / 2)
  unfolding natural_of
  natural_some {i} q = when_some (is_natural most x) (x / 2) i (sym p ∙ q)

  pub natural_none : r ≡ None → is_natural most x ≡ false
  unfolding natural_of
  natural_none q = when_none (is_natural most x) (x / 2) (sym p ∙ q)

pub natural_most : (most x : ℕ) {i : ℕ} → (is_natural most x ≡ true) × (i ≡ x / 2) → i ≤ most
natural_most most x k =
    let l = leb→le (x / 2) most (and_right (eqb (x % 2) 1) (leb (x / 2) most) (true→T k.0)) in
    let e = k.1 in
    omega arith

module _ (count x : ℕ) where
  pub no_natural : is_natural largest_integer x ≡ false → None ≡ index_of count x
  unfolding index_of is_index
  no_natural p = sym (if_no _ _ (ap (λ (t : Bool). t && (leb 1 (x / 2) && leb (x / 2) count)) p))

  module _ {i : ℕ} (p : (is_natural largest_integer x ≡ true) × (i ≡ x / 2)) where
    pub an_index : 1 ≤ i → i ≤ count → Some i ≡ index_of count x
    unfolding index_of is_index
    an_index l m =
        ap Some p.1
        ∙ sym (if_yes _ _ (ap₂ ◌&&◌ p.0 (ap₂ ◌&&◌ (le-leb 1 (x / 2) (subst (λ (k : ℕ). 1 ≤ k) p.1 l)) (le-leb (x / 2) count (subst (λ (k : ℕ). k ≤ count) p.1 m)))))

    pub no_index : (1 ≤ i → count < i) → None ≡ index_of count x
    unfolding index_of is_index
    no_index f = sym (if_no _ _ (ap₂ ◌&&◌ p.0 (outside (x / 2) (subst (λ (k : ℕ). 1 ≤ k → count < k) p.1 f))))
      where
        outside : (k : ℕ) → (1 ≤ k → count < k) → (leb 1 k && leb k count) ≡ false
        outside k g = by_least (dec_le 1 k)
          where
            by_least : Dec (1 ≤ k) → (leb 1 k && leb k count) ≡ false
            by_least (yes q) = ap₂ ◌&&◌ (le-leb 1 k q) (lt-leb k count (g q))
            by_least (no q) = ap (λ (t : Bool). t && leb k count) (lt-leb 1 k (omega arith))

pub record Indexed (o : Objects) (w x i : ℕ) : Type 0 where
  pub test : is_index (element_count o w) x ≡ true
  pub number : i ≡ x / 2
  pub least : 1 ≤ i
  pub most : i ≤ element_count o w

module _ {o : Objects} {w : ℕ} {e : Elements} (t : Taken o w e) where
  pub not_indexed : (x : ℕ) {r : Option ℕ} → r ≡ index_of e.count x → r ≡ None → is_index (element_count o w) x ≡ false
  unfolding index_of
  not_indexed x p q = when_none (is_index (element_count o w) x) (x / 2) (sym (p ∙ ap (λ (k : ℕ). index_of k x) t.count) ∙ q)

  pub indexed_by : {x i : ℕ} {r : Option ℕ} → r ≡ index_of e.count x → r ≡ Some i → Indexed o w x i
  unfolding index_of
  indexed_by {x} {i} p q =
      let k = when_some (is_index (element_count o w) x) (x / 2) i (sym (p ∙ ap (λ (k : ℕ). index_of k x) t.count) ∙ q) in
      let h = index_facts (element_count o w) x (true→T k.0) in
      let l = h.least in
      let m = h.most in
      let n = k.1 in
      record { test = k.0; number = n; least = omega arith; most = omega arith }

-- The body of a receiver, and in it the place of an element
module _ {n b : ℕ} {contents bodies : List ℕ} {w : ℕ} (r : Receives n b contents bodies w) where
  pub receiver_listed : w % 2 ≢ 1 → Entry n (object_number w) contents
  receiver_listed d = valid_entry n contents w r.valid d (contents_room n b contents bodies r.right.1)

  pub receiver_class : {c : ℕ} → c ≡ class_of (objects_at n b contents bodies) w → Holds 2 n b contents bodies c
  receiver_class e =
      record { right = r.right; kinds = subst (λ (x : ℕ). T (is_kind (objects_at n b contents bodies) 2 x)) (sym e) (class_kind_lem r.right.1 w r.valid) }

  -- no count of elements is below 0
  pub named_first : {f s z : ℕ} → w % 2 ≢ 1 → f ≡ form (objects_at n b contents bodies) (class_of (objects_at n b contents bodies) w) → has_elements f ≡ true
      → s ≡ element_start (objects_at n b contents bodies) w → z ≡ size (objects_at n b contents bodies) (object_number w) → s ≤ z
  named_first d e p s z = let l = named_inside r.right.1 w r.valid d (by_form (objects_at n b contents bodies) w e p) in omega arith

  pub start_small : {e : Elements} → Taken (objects_at n b contents bodies) w e → e.start ≤ 255
  start_small t = let l = (class_facts r.right.1 (class_of (objects_at n b contents bodies) w) (class_kind_lem r.right.1 w r.valid)).fields in let s = t.start in omega arith

  module _ {x i : ℕ} {e : Elements} (t : Taken (objects_at n b contents bodies) w e) (k : Indexed (objects_at n b contents bodies) w x i) where
    inside : {j : ℕ} → j < body_words (objects_at n b contents bodies) (object_number w) → Inside n b contents bodies w j
    inside h = let l = receiver_listed t.even in body_inside (right_laid r.right.1) l.least l.most h

    pub word_inside : e.by ≡ Words → Inside n b contents bodies w (e.start + (i - 1))
    word_inside d = inside (go t.forms)
      where
        go : Forms (form (objects_at n b contents bodies) (class_of (objects_at n b contents bodies) w)) → e.start + (i - 1) < body_words (objects_at n b contents bodies) (object_number w)
        go (inl q) =
            let f = words_kind r.right.1 w r.valid t.even q in
            let z = in_words (objects_at n b contents bodies) (object_number w) (omega arith) (omega arith) in
            let s = t.start in
            let m = k.most in
            let l = k.least in
            omega arith
        go (inr q) = absurd (subst T (sym (eq-eqb _ bytes_form q) ∙ when_words _ (sym t.by ∙ d)) tt)

    pub byte_inside : e.by ≡ Bytes → Inside n b contents bodies w ((e.start + (i - 1)) / 2)
    byte_inside p =
        let f = bytes_kind_lem r.right.1 w r.valid t.even (eqb→eq _ bytes_form (true→T (when_bytes _ (sym t.by ∙ p)))) in
        let z = in_bytes (objects_at n b contents bodies) (object_number w) (sized_at (kind (objects_at n b contents bodies) (object_number w)) bytes_kind f tt) in
        let s = t.start in
        let m = k.most in
        let l = k.least in
        inside (omega arith)

-- 60 to 62, case by case
pub size_none : (o : Objects) (w : ℕ) → is_indexable o w ≡ false → fails ≡ size_answer o w
unfolding size_answer
size_none o w p = sym (if_no _ _ p)

pub at_none : (o : Objects) (w x : ℕ) → is_indexable o w ≡ false → fails ≡ at o w x
unfolding at
at_none o w x p = sym (if_no _ _ (ap (λ (t : Bool). t && is_index (element_count o w) x) p))

pub put_none : (o : Objects) (w x v : ℕ) → is_indexable o w ≡ false → fails ≡ at_put o w x v
unfolding at_put
put_none o w x v p = sym (if_no _ _ (ap (λ (t : Bool). t && is_index (element_count o w) x) p))

module _ {o : Objects} {w : ℕ} {e : Elements} (t : Taken o w e) where
  pub size_some : answers (2 * e.count + 1) o ≡ size_answer o w
  unfolding size_answer
  size_some = ap (λ (k : ℕ). answers (2 * k + 1) o) t.count ∙ sym (if_yes _ _ t.test)

  pub at_no_index : (x : ℕ) → is_index (element_count o w) x ≡ false → fails ≡ at o w x
  unfolding at
  at_no_index x p = sym (if_no _ _ (ap₂ ◌&&◌ t.test p))

  pub put_no_index : (x v : ℕ) → is_index (element_count o w) x ≡ false → fails ≡ at_put o w x v
  unfolding at_put
  put_no_index x v p = sym (if_no _ _ (ap₂ ◌&&◌ t.test p))

  holds : e.by ≡ Bytes → holds_bytes o w ≡ true
  holds p = when_bytes _ (sym t.by ∙ p)

  holds_not : e.by ≡ Words → holds_bytes o w ≡ false
  holds_not d = when_words _ (sym t.by ∙ d)

  module _ {x i : ℕ} (k : Indexed o w x i) where
    both : (is_indexable o w && is_index (element_count o w) x) ≡ true
    both = ap₂ ◌&&◌ t.test k.test

    placed : e.start + (i - 1) ≡ place_of_index o w x
    placed = ap₂ (λ (s j : ℕ). s + (j - 1)) t.start k.number

    pub at_byte : {v : ℕ} → e.by ≡ Bytes → v ≡ object_byte o (object_number w) (e.start + (i - 1)) → answers (2 * v + 1) o ≡ at o w x
    unfolding at
    at_byte q p =
        ap (λ (y : ℕ). answers (2 * y + 1) o) (p ∙ ap (object_byte o (object_number w)) placed)
        ∙ sym (if_yes _ _ both ∙ ap (λ (y : ℕ). answers y o) (if_yes _ _ (holds q)))

    pub at_word : {v : ℕ} → e.by ≡ Words → v ≡ body_word o (object_number w) (e.start + (i - 1)) → answers v o ≡ at o w x
    unfolding at
    at_word d p =
        ap (λ (y : ℕ). answers y o) (p ∙ ap (body_word o (object_number w)) placed)
        ∙ sym (if_yes _ _ both ∙ ap (λ (y : ℕ). answers y o) (if_no _ _ (holds_not d)))

    pub put_word : {v : ℕ} → e.by ≡ Words → answers v (store_word o (object_number w) (e.start + (i - 1)) v) ≡ at_put o w x v
    unfolding at_put
    put_word {v} d =
        ap (λ (j : ℕ). answers v (store_word o (object_number w) j v)) placed ∙ sym (if_yes _ _ both ∙ if_no _ _ (holds_not d))

    pub put_byte : {v y : ℕ} → e.by ≡ Bytes → (is_natural 255 v ≡ true) × (y ≡ v / 2) → answers v (store_byte o (object_number w) (e.start + (i - 1)) y) ≡ at_put o w x v
    unfolding at_put
    put_byte {v} h p =
        ap₂ (λ (j z : ℕ). answers v (store_byte o (object_number w) j z)) placed p.1
        ∙ sym (if_yes _ _ both ∙ if_yes _ _ (holds h) ∙ if_yes _ _ p.0)

    pub put_not : (v : ℕ) → e.by ≡ Bytes → is_natural 255 v ≡ false → fails ≡ at_put o w x v
    unfolding at_put
    put_not v h p = sym (if_yes _ _ both ∙ if_yes _ _ (holds h) ∙ if_no _ _ p)

-- in the buffer
pub puts_none : {n b : ℕ} {contents bodies : List ℕ} {w : ℕ} {z : Outcome} {r : Option ℕ} → Receives n b contents bodies w → r ≡ None → fails ≡ z
    → Puts (objects_at n b contents bodies) z r bodies bodies
unfolding answer_of objects_after
puts_none {n} {b} {contents} {bodies} {r = r} h e p =
    subst (λ (z : Outcome). Puts (objects_at n b contents bodies) z r bodies bodies) p (record { answer = e; words = sym (front_same b bodies (bodies_room n b contents bodies h.right.1)) })

pub puts_some : {o o' : Objects} {v : ℕ} {bodies after : List ℕ} {z : Outcome} → after ≡ at_front o'.bodies bodies → answers v o' ≡ z → Puts o z (Some v) bodies after
unfolding answer_of objects_after
puts_some {o} {o'} {v} {bodies} {after} h p = subst (λ (z : Outcome). Puts o z (Some v) bodies after) p (record { answer = refl; words = h })
