-- Elements behind named fields (02, M-103): what the tests of 60 to 62 say, and where in a right object's body an element stands.
use Prim.Native.Nat.{ℕ, ◌+◌, ◌/◌, ◌%◌, ◌≤◌, ◌<◌}
use mathlib.Core.Path.{◌≡◌, sym, subst}
use mathlib.Core.Logic.{◌≢◌, ◌⊎◌, inl, inr}
use mathlib.Core.Bool.{Bool, ◌&&◌, not}
use native.Mathlib.Omega.{arith}
use borrow.Author.Tests.{eq-eqb, ne_eqb, eqb-true}
use lib.Dec.{T, T_not, not_T, leb, eqb, leb→le, le→leb, eqb→eq}
use lib.Seq.{get_or-set_other}
use Rattle.bytecode.proofs.Choice.{if_no, if_cases}
use Rattle.bytecode.proofs.TestLaws.{true→T, and_left, and_right, and_both, or_cases}
use Rattle.model.specs.Limits.{fields_kind, bytes_kind, indexed_form, bytes_form, largest_integer, most_elements}
use Rattle.model.specs.Word.{is_integer, is_natural, is_valid, object_number}
use Rattle.model.specs.Objects.{Objects, class_word, kind, start, size, body_word, class_of, form}
use Rattle.model.specs.Primitive.{Outcome, answers, fails, store_word, store_byte, element_start, element_count, has_elements, is_indexable, holds_bytes, is_index, place_of_index, at_put}
use Rattle.model.proofs.Parts.{or_left, or_right}
use Rattle.model.proofs.Facts.{Right, Valid, odd, names, valid_cases, Fits, fixed, indexed, bytes, other, entry_fits, class_facts}
use Rattle.model.proofs.SendFacts.{class_kind_lem}

-- The tests as facts: the forms that are taken
abbrev pub Forms : ℕ → Type 0
Forms f = (f ≡ indexed_form) ⊎ (f ≡ bytes_form)

pub has_forms : (f : ℕ) → T (has_elements f) → Forms f
has_forms f t = go (or_cases (eqb f indexed_form) (eqb f bytes_form) t)
  where
    go : T (eqb f indexed_form) ⊎ T (eqb f bytes_form) → Forms f
    go (inl q) = inl (eqb→eq f indexed_form q)
    go (inr q) = inr (eqb→eq f bytes_form q)

pub forms_have : (f : ℕ) → Forms f → T (has_elements f)
forms_have f (inl q) = or_left (eqb f indexed_form) (eqb f bytes_form) (true→T (eq-eqb f indexed_form q))
forms_have f (inr q) = or_right (eqb f indexed_form) (eqb f bytes_form) (true→T (eq-eqb f bytes_form q))

-- a receiver that is taken
pub record Indexable (o : Objects) (w : ℕ) : Type 0 where
  pub even : w % 2 ≢ 1
  pub forms : Forms (form o (class_of o w))
  pub small : element_count o w ≤ most_elements

module _ (o : Objects) (w : ℕ) where
  abbrev formTest : Bool
  formTest = has_elements (form o (class_of o w))

  abbrev countTest : Bool
  countTest = leb (element_count o w) most_elements

  pub indexable_facts : T (is_indexable o w) → Indexable o w
  unfolding is_indexable
  indexable_facts t =
      let rest : T (formTest && countTest) = and_right (not (is_integer w)) (formTest && countTest) t in
      record {
        even = λ h. T_not (is_integer w) (and_left (not (is_integer w)) (formTest && countTest) t) (true→T (eq-eqb (w % 2) 1 h));
        forms = has_forms (form o (class_of o w)) (and_left formTest countTest rest);
        small = leb→le (element_count o w) most_elements (and_right formTest countTest rest);
      }

  pub facts_indexable : Indexable o w → T (is_indexable o w)
  unfolding is_indexable
  facts_indexable h =
      and_both (not (is_integer w)) (formTest && countTest) (not_T (is_integer w) (λ q. h.even (eqb→eq (w % 2) 1 q)))
      (and_both formTest countTest (forms_have (form o (class_of o w)) h.forms) (le→leb (element_count o w) most_elements h.small))

-- and an index of so many elements
pub record Index (count x : ℕ) : Type 0 where
  pub odd : x % 2 ≡ 1
  pub small : x / 2 ≤ largest_integer
  pub least : 1 ≤ x / 2
  pub most : x / 2 ≤ count

module _ (count x : ℕ) where
  pub index_facts : T (is_index count x) → Index count x
  unfolding is_index
  index_facts t =
      let p : T (is_integer x && leb (x / 2) largest_integer) = and_left (is_natural largest_integer x) (leb 1 (x / 2) && leb (x / 2) count) t in
      let q : T (leb 1 (x / 2) && leb (x / 2) count) = and_right (is_natural largest_integer x) (leb 1 (x / 2) && leb (x / 2) count) t in
      record {
        odd = eqb→eq (x % 2) 1 (and_left (is_integer x) (leb (x / 2) largest_integer) p);
        small = leb→le (x / 2) largest_integer (and_right (is_integer x) (leb (x / 2) largest_integer) p);
        least = leb→le 1 (x / 2) (and_left (leb 1 (x / 2)) (leb (x / 2) count) q);
        most = leb→le (x / 2) count (and_right (leb 1 (x / 2)) (leb (x / 2) count) q);
      }

  pub facts_index : Index count x → T (is_index count x)
  unfolding is_index
  facts_index h =
      and_both (is_natural largest_integer x) (leb 1 (x / 2) && leb (x / 2) count)
      (and_both (is_integer x) (leb (x / 2) largest_integer) (true→T (eq-eqb (x % 2) 1 h.odd)) (le→leb (x / 2) largest_integer h.small))
      (and_both (leb 1 (x / 2)) (leb (x / 2) count) (le→leb 1 (x / 2) h.least) (le→leb (x / 2) count h.most))

-- The place of an element is inside the body, and behind the named fields.
pub place_inside : (o : Objects) (w x : ℕ) → Index (element_count o w) x → place_of_index o w x < size o (object_number w)
place_inside o w x h = let a = h.least in let b = h.most in omega arith

pub place_behind : (o : Objects) (w x : ℕ) → element_start o w ≤ place_of_index o w x
place_behind o w x = omega arith

pub record Listed (o : Objects) (w : ℕ) : Type 0 where
  pub first : 1 ≤ object_number w
  pub last : object_number w ≤ o.n
  pub classed : class_of o w ≡ class_word o (object_number w)

module _ {e : ℕ} {o : Objects} (r : Right e o) (w : ℕ) (v : T (is_valid o.n w)) where
  pub listed : w % 2 ≢ 1 → Listed o w
  unfolding class_of
  listed d = go (valid_cases o.n w v)
    where
      go : Valid o.n w → Listed o w
      go (odd h) = absurd (d h)
      go (names a b c) = record { first = b; last = c; classed = if_no _ _ (ne_eqb (w % 2) 1 d) }

  pub fits_class : w % 2 ≢ 1 → Fits o (object_number w) (class_of o w)
  fits_class d = let l = listed d in subst (Fits o (object_number w)) (sym l.classed) (entry_fits r (object_number w) l.first l.last)

  pub bytes_kind_lem : w % 2 ≢ 1 → form o (class_of o w) ≡ bytes_form → kind o (object_number w) ≡ bytes_kind
  bytes_kind_lem d p = go (fits_class d)
    where
      go : Fits o (object_number w) (class_of o w) → kind o (object_number w) ≡ bytes_kind
      go (fixed a b c) = absurd (omega arith)
      go (indexed a b c) = absurd (omega arith)
      go (bytes a b) = b
      go (other a b) = absurd (omega arith)

  pub words_kind : w % 2 ≢ 1 → form o (class_of o w) ≡ indexed_form → kind o (object_number w) ≡ fields_kind
  words_kind d p = go (fits_class d)
    where
      go : Fits o (object_number w) (class_of o w) → kind o (object_number w) ≡ fields_kind
      go (fixed a b c) = absurd (omega arith)
      go (indexed a b c) = b
      go (bytes a b) = absurd (omega arith)
      go (other a b) = absurd (omega arith)

  -- no named fields in bytes
  pub none_named : w % 2 ≢ 1 → form o (class_of o w) ≡ bytes_form → element_start o w ≡ 0
  none_named d p = (class_facts r (class_of o w) (class_kind_lem r w v)).none (omega arith)

  -- The body holds the named fields and the elements.
  pub named_inside : w % 2 ≢ 1 → Forms (form o (class_of o w)) → element_start o w ≤ size o (object_number w)
  named_inside d (inr p) = let z = none_named d p in omega arith
  named_inside d (inl p) = go (fits_class d)
    where
      go : Fits o (object_number w) (class_of o w) → element_start o w ≤ size o (object_number w)
      go (fixed a b c) = absurd (omega arith)
      go (indexed a b c) = c
      go (bytes a b) = absurd (omega arith)
      go (other a b) = absurd (omega arith)

  pub elements_fill : Indexable o w → element_start o w + element_count o w ≡ size o (object_number w)
  elements_fill h = let l = named_inside h.even h.forms in omega arith

  -- 61 leaves the named fields of its receiver as they were.
  abbrev NamedKept : Outcome → Type 0
  NamedKept (answers y o') = (i : ℕ) → i < element_start o w → body_word o' (object_number w) i ≡ body_word o (object_number w) i
  NamedKept fails = Unit {0}

  pub named_kept : (x y u : ℕ) (o' : Objects) → at_put o w x y ≡ answers u o' → (i : ℕ) → i < element_start o w → body_word o' (object_number w) i ≡ body_word o (object_number w) i
  unfolding at_put store_byte store_word
  named_kept x y u o' p = subst NamedKept p whole
    where
      whole : NamedKept (at_put o w x y)
      whole =
          if_cases NamedKept (is_indexable o w && is_index (element_count o w) x) _ fails
          (λ p. let h = indexable_facts o w (and_left (is_indexable o w) (is_index (element_count o w) x) (true→T p)) in
          if_cases NamedKept (holds_bytes o w) _ _
          (λ q. if_cases NamedKept (is_natural 255 y) _ fails
          (λ s i l. let z = none_named h.even (eqb-true (form o (class_of o w)) bytes_form q) in absurd (omega arith))
          (λ s. tt))
          (λ q i l. get_or-set_other o.bodies (start o (object_number w) + place_of_index o w x) (start o (object_number w) + i) y 0 (omega arith)))
          (λ p. tt)
