-- A primitive that answers leaves right objects right, extends them, and answers a valid word.
use Prim.Native.Nat.{ℕ, ◌+◌, ◌-◌, ◌*◌, ◌/◌, ◌%◌, ◌≤◌, ◌<◌, min, max}
use mathlib.Core.Path.{◌≡◌, refl, sym, ap, ap₂, ◌∙◌, subst}
use mathlib.Core.Logic.{inl, inr}
use mathlib.Core.Bool.{Bool, true, false, ◌&&◌, not}
use mathlib.Core.List.{List}
use native.Mathlib.Omega.{arith}
use borrow.Author.Tests.{eq-eqb, eqb-true, eqb-false}
use lib.Dec.{T, eqb, leb→le, eqb→eq}
use lib.ListN.{length, get_or, replicate, length-replicate, get_or-replicate}
use lib.IntN.{ℤ, pos, negsuc}
use lib.Signed.{lt_z, le_z}
use lib.Bits.{bit_and, bit_or, bit_xor, differ, and_step, or_step, xor_step}
use Rattle.bytecode.specs.Test.{every}
use Rattle.bytecode.specs.Constant.{nil_word, false_word, true_word}
use Rattle.bytecode.proofs.Choice.{if_yes, if_cases}
use Rattle.bytecode.proofs.TestLaws.{true→T, and_left, and_right, every_at}
use Rattle.std.specs.Prelude.{Option, Some, None}
use Rattle.model.specs.Limits.{entry_words, fields_kind, bytes_kind, class_kind, fixed_form, indexed_form, bytes_form, largest_integer}
use Rattle.model.specs.Word.{is_integer, is_natural, is_valid, in_range, word_of, value_of, pointer, boolean_word}
use Rattle.model.specs.Objects.{Objects, kind, size, body_word, is_kind, class_of, field_count, form}
use Rattle.model.specs.Image.{Room}
use Rattle.model.specs.Arithmetic.{number, divided, exact_quotient, on_integers, on_bits, arithmetic}
use Rattle.model.specs.Primitive.{Outcome, answers, fails, store_word, object_byte, store_byte, is_indexable, holds_bytes, element_count, is_index, place_of_index, at, at_put, size_answer, appended, has_room, make, new, new_with, computed, perform, primitive_count, primitive}
use Rattle.model.proofs.Marks.{blank}
use Rattle.model.proofs.Facts.{Right, valid_odd, valid_name, in_words, least, word_valid}
use Rattle.model.proofs.Extends.{Extends, extends_refl, valid_grows}
use Rattle.model.proofs.ElementLaws.{Forms, Indexable, indexable_facts, index_facts, place_inside, listed, bytes_kind_lem, words_kind}
use Rattle.model.proofs.SendFacts.{class_valid_lem}
use Rattle.model.proofs.StoreLaws.{stored_extends, stored_right, byte_extends, byte_right}
use Rattle.model.proofs.AppendLaws.{HasRoom, room_facts, Suits, as_many, at_least, of_bytes, suits_free, appended_extends, appended_right}

pub record Performed (room : Room) (e : ℕ) (o : Objects) (v : ℕ) (o' : Objects) : Type 0 where
  pub right : Right e o'
  pub extends : Extends o o'
  pub valid : T (is_valid o'.n v)
  pub contents : entry_words * o.n ≤ room.contents → entry_words * o'.n ≤ room.contents
  pub bodies : o.b ≤ room.bodies → o'.b ≤ room.bodies

-- the law of an outcome: nothing where it fails
abbrev pub Kept : Room → ℕ → Objects → Outcome → Type 0
Kept room e o (answers v o') = Performed room e o v o'
Kept room e o fails = Unit {0}

-- Arithmetic: an odd word, or true or false
abbrev pub ValidWord : Objects → Option ℕ → Type 0
ValidWord o (Some w) = T (is_valid o.n w)
ValidWord o None = Unit {0}

module _ {e : ℕ} {o : Objects} (r : Right e o) where
  boolean_valid : (b : Bool) → T (is_valid o.n (boolean_word b))
  boolean_valid true = let l = least r in valid_name o.n true_word (omega arith) (omega arith) (omega arith)
  boolean_valid false = let l = least r in valid_name o.n false_word (omega arith) (omega arith) (omega arith)

  nil_valid : T (is_valid (o.n + 1) nil_word)
  nil_valid = valid_name (o.n + 1) nil_word (omega arith) (omega arith) (omega arith)

  word_odd : (z : ℤ) → T (in_range z) → word_of z % 2 ≡ 1
  unfolding word_of
  word_odd (pos n) t = omega arith
  word_odd (negsuc n) t = let h = leb→le n largest_integer t in omega arith

  number_valid : (z : ℤ) → ValidWord o (number z)
  unfolding number
  number_valid z = if_cases (ValidWord o) (in_range z) (Some (word_of z)) None (λ p. valid_odd o.n (word_of z) (word_odd z (true→T p))) (λ p. tt)

  divided_valid : (b z : ℤ) → ValidWord o (divided b z)
  unfolding divided
  divided_valid b z = if_cases (ValidWord o) _ None (number z) (λ p. tt) (λ p. number_valid z)

  exact_valid : (a b : ℤ) → ValidWord o (exact_quotient a b)
  unfolding exact_quotient
  exact_valid a b = if_cases (ValidWord o) _ _ None (λ p. divided_valid b _) (λ p. tt)

  integers_valid : (k : ℕ) (a b : ℤ) → ValidWord o (on_integers k a b)
  unfolding on_integers
  integers_valid k a b =
      if_cases (ValidWord o) _ _ _ (λ p. number_valid _)
      (λ p. if_cases (ValidWord o) _ _ _ (λ p. number_valid _)
      (λ p. if_cases (ValidWord o) _ _ _ (λ p. boolean_valid (lt_z a b))
      (λ p. if_cases (ValidWord o) _ _ _ (λ p. boolean_valid (lt_z b a))
      (λ p. if_cases (ValidWord o) _ _ _ (λ p. boolean_valid (le_z a b))
      (λ p. if_cases (ValidWord o) _ _ _ (λ p. boolean_valid (le_z b a))
      (λ p. if_cases (ValidWord o) _ _ _ (λ p. boolean_valid (le_z a b && le_z b a))
      (λ p. if_cases (ValidWord o) _ _ _ (λ p. boolean_valid (not (le_z a b && le_z b a)))
      (λ p. if_cases (ValidWord o) _ _ _ (λ p. number_valid _)
      (λ p. if_cases (ValidWord o) _ _ _ (λ p. exact_valid a b)
      (λ p. if_cases (ValidWord o) _ _ _ (λ p. divided_valid b _)
      (λ p. if_cases (ValidWord o) _ _ _ (λ p. divided_valid b _)
      (λ p. if_cases (ValidWord o) _ _ _ (λ p. divided_valid b _)
      (λ p. if_cases (ValidWord o) _ _ _ (λ p. number_valid _) (λ p. tt))))))))))))))

  -- the tags of two integers are one
  bits_valid : (k v w : ℕ) → v % 2 ≡ 1 → w % 2 ≡ 1 → ValidWord o (on_bits k v w)
  unfolding on_bits
  bits_valid k v w p q =
      if_cases (ValidWord o) _ _ _ (λ h. valid_odd o.n (bit_and v w) (and_odd (bit_and (v / 2) (w / 2)) (and_step v w)))
      (λ h. if_cases (ValidWord o) _ _ _ (λ g. valid_odd o.n (bit_or v w) (or_odd (bit_or (v / 2) (w / 2)) (or_step v w)))
      (λ g. valid_odd o.n (bit_xor v w + 1) (xor_odd (bit_xor (v / 2) (w / 2)) (xor_step v w ∙ ap₂ (λ (a b : ℕ). bit_xor (v / 2) (w / 2) * 2 + differ a b) p q))))
    where
      and_odd : {x : ℕ} (y : ℕ) → x ≡ y * 2 + min (v % 2) (w % 2) → x % 2 ≡ 1
      and_odd y s = omega arith

      or_odd : {x : ℕ} (y : ℕ) → x ≡ y * 2 + max (v % 2) (w % 2) → x % 2 ≡ 1
      or_odd y s = omega arith

      xor_odd : {x : ℕ} (y : ℕ) → x ≡ y * 2 + 0 → (x + 1) % 2 ≡ 1
      xor_odd y s = omega arith

  pub arithmetic_valid : (k v w : ℕ) → ValidWord o (arithmetic k v w)
  unfolding arithmetic
  arithmetic_valid k v w =
      if_cases (ValidWord o) (is_integer v && is_integer w) _ None
      (λ p. if_cases (ValidWord o) _ _ _ (λ q. bits_valid k v w (eqb→eq (v % 2) 1 (and_left (is_integer v) (is_integer w) (true→T p)))
      (eqb→eq (w % 2) 1 (and_right (is_integer v) (is_integer w) (true→T p)))) (λ q. integers_valid k (value_of v) (value_of w)))
      (λ p. tt)

  module _ (room : Room) where
    -- nothing is changed
    same_objects : (v : ℕ) → T (is_valid o.n v) → Performed room e o v o
    same_objects v t = record { right = r; extends = extends_refl o; valid = t; contents = λ h. h; bodies = λ h. h }

    computed_law : (z : Option ℕ) → ValidWord o z → Kept room e o (computed o z)
    computed_law (Some w) t = same_objects w t
    computed_law None t = tt

    -- 60 to 62: the receiver is an object of fields or of bytes
    module _ (w : ℕ) (v : T (is_valid o.n w)) where
      -- what the two tests say
      taken : (x : ℕ) → (is_indexable o w && is_index (element_count o w) x) ≡ true → Indexable o w
      taken x p = indexable_facts o w (and_left (is_indexable o w) (is_index (element_count o w) x) (true→T p))

      place : (x : ℕ) → (is_indexable o w && is_index (element_count o w) x) ≡ true → place_of_index o w x < size o (w / 2)
      place x p = place_inside o w x (index_facts (element_count o w) x (and_right (is_indexable o w) (is_index (element_count o w) x) (true→T p)))

      in_fields : Indexable o w → holds_bytes o w ≡ false → kind o (w / 2) ≡ fields_kind
      in_fields h p = go h.forms
        where
          go : Forms (form o (class_of o w)) → kind o (w / 2) ≡ fields_kind
          go (inl q) = words_kind r w v h.even q
          go (inr q) = absurd (eqb-false (form o (class_of o w)) bytes_form p q)

      in_bytes : Indexable o w → holds_bytes o w ≡ true → kind o (w / 2) ≡ bytes_kind
      in_bytes h p = bytes_kind_lem r w v h.even (eqb-true (form o (class_of o w)) bytes_form p)

      element_valid : (i : ℕ) → Indexable o w → holds_bytes o w ≡ false → i < size o (w / 2) → T (is_valid o.n (body_word o (w / 2) i))
      element_valid i h p l =
          let k = in_fields h p in
          let q = in_words o (w / 2) (omega arith) (omega arith) in
          let s = listed r w v h.even in
          word_valid r (w / 2) i s.first s.last (omega arith) (omega arith) (omega arith)

      pub at_law : (x : ℕ) → Kept room e o (at o w x)
      unfolding at
      at_law x =
          if_cases (Kept room e o) (is_indexable o w && is_index (element_count o w) x) _ fails
          (λ p. same_objects _ (if_cases (λ (z : ℕ). T (is_valid o.n z)) (holds_bytes o w) (2 * object_byte o (w / 2) (place_of_index o w x) + 1) (body_word o (w / 2) (place_of_index o w x))
          (λ q. valid_odd o.n (2 * object_byte o (w / 2) (place_of_index o w x) + 1) (omega arith)) (λ q. element_valid (place_of_index o w x) (taken x p) q (place x p))))
          (λ p. tt)

      pub size_law : Kept room e o (size_answer o w)
      unfolding size_answer
      size_law =
          if_cases (Kept room e o) (is_indexable o w) _ fails (λ p. same_objects (2 * element_count o w + 1) (valid_odd o.n (2 * element_count o w + 1) (omega arith))) (λ p. tt)

      byte_stored : (i b y : ℕ) → T (is_valid o.n y) → Indexable o w → holds_bytes o w ≡ true → i < size o (w / 2) → Performed room e o y (store_byte o (w / 2) i b)
      byte_stored i b y u h p l =
          record {
            right = let s = listed r w v h.even in byte_right r (w / 2) i b s.first s.last (in_bytes h p) l;
            extends = x;
            valid = valid_grows x y u;
            contents = λ q. (unfold store_byte store_word in q);
            bodies = λ q. (unfold store_byte store_word in q);
          }
        where
          x : Extends o (store_byte o (w / 2) i b)
          x = let s = listed r w v h.even in byte_extends r (w / 2) i b s.first s.last (in_bytes h p) l

      word_stored : (i y : ℕ) → T (is_valid o.n y) → Indexable o w → holds_bytes o w ≡ false → i < size o (w / 2) → Performed room e o y (store_word o (w / 2) i y)
      word_stored i y u h p l =
          record {
            right = let s = listed r w v h.even in stored_right r (w / 2) i y s.first s.last (in_fields h p) l u;
            extends = x;
            valid = valid_grows x y u;
            contents = λ q. (unfold store_word in q);
            bodies = λ q. (unfold store_word in q);
          }
        where
          x : Extends o (store_word o (w / 2) i y)
          x = let s = listed r w v h.even in stored_extends r (w / 2) i y s.first s.last (in_fields h p) l

      pub at_put_law : (x y : ℕ) → T (is_valid o.n y) → Kept room e o (at_put o w x y)
      unfolding at_put
      at_put_law x y u =
          if_cases (Kept room e o) (is_indexable o w && is_index (element_count o w) x) _ fails
          (λ p. if_cases (Kept room e o) (holds_bytes o w) _ _
          (λ q. if_cases (Kept room e o) (is_natural 255 y) _ fails (λ s. byte_stored (place_of_index o w x) (y / 2) y u (taken x p) q (place x p)) (λ s. tt))
          (λ q. word_stored (place_of_index o w x) y u (taken x p) q (place x p)))
          (λ p. tt)

    -- One more object, where there is room for it: 70 and 71, arrays and messages
    pub append_law : (c kd sz : ℕ) (body : List ℕ) → T (is_kind o class_kind c) → Suits o c kd sz body → HasRoom room o (length body)
        → Performed room e o (pointer (o.n + 1)) (appended o c kd sz body)
    append_law c kd sz body t s h =
        record {
          right = appended_right r c kd sz body t s h.objects h.words;
          extends = appended_extends r c kd sz body (suits_free s);
          valid = (unfold appended in valid_name (o.n + 1) (pointer (o.n + 1)) (omega arith) (omega arith) (omega arith));
          contents = λ q. (unfold appended in h.contents);
          bodies = λ q. (unfold appended in h.bodies);
        }

    pub make_law : (c kd sz count fill : ℕ) → T (is_kind o class_kind c) → Suits o c kd sz (replicate count fill) → Kept room e o (make room o c kd sz count fill)
    unfolding make
    make_law c kd sz count fill t s =
        if_cases (Kept room e o) (has_room room o count) _ fails
        (λ p. append_law c kd sz (replicate count fill) t s (subst (HasRoom room o) (sym (length-replicate count fill)) (room_facts room o count (true→T p)))) (λ p. tt)

    fill_valid : (count i : ℕ) → i < length (replicate count nil_word) → T (is_valid (o.n + 1) (get_or (replicate count nil_word) i 0))
    fill_valid count i l =
        let q = length-replicate count nil_word in
        subst (λ (z : ℕ). T (is_valid (o.n + 1) z)) (sym (get_or-replicate count i nil_word 0 (omega arith))) nil_valid

    fill_zero : (count i : ℕ) → get_or (replicate count 0) i 0 % 256 ≡ 0
    fill_zero count i = ap (λ (z : ℕ). z % 256) (blank count i)

    pub new_law : (c : ℕ) → Kept room e o (new room o c)
    unfolding new
    new_law c =
        if_cases (Kept room e o) (is_kind o class_kind c && eqb (form o c) fixed_form) _ fails
        (λ p. make_law c fields_kind (field_count o c) (field_count o c) nil_word (and_left (is_kind o class_kind c) (eqb (form o c) fixed_form) (true→T p))
        (as_many refl (eqb→eq (form o c) fixed_form (and_right (is_kind o class_kind c) (eqb (form o c) fixed_form) (true→T p))) refl
        (length-replicate (field_count o c) nil_word) (fill_valid (field_count o c))))
        (λ p. tt)

    pub new_with_law : (c x : ℕ) → Kept room e o (new_with room o c x)
    unfolding new_with
    new_with_law c x =
        if_cases (Kept room e o) (is_kind o class_kind c && is_natural largest_integer x) _ fails
        (λ p. let t = and_left (is_kind o class_kind c) (is_natural largest_integer x) (true→T p) in
        if_cases (Kept room e o) (eqb (form o c) indexed_form) _ _
        (λ q. make_law c fields_kind (field_count o c + x / 2) (field_count o c + x / 2) nil_word t
        (at_least refl (eqb-true (form o c) indexed_form q) (omega arith) (length-replicate (field_count o c + x / 2) nil_word) (fill_valid (field_count o c + x / 2))))
        (λ q. if_cases (Kept room e o) (eqb (form o c) bytes_form) _ fails
        (λ s. make_law c bytes_kind (x / 2) ((x / 2 + 1) / 2) 0 t
        (of_bytes refl (eqb-true (form o c) bytes_form s) (length-replicate ((x / 2 + 1) / 2) 0) (λ h. fill_zero ((x / 2 + 1) / 2) (length (replicate ((x / 2 + 1) / 2) 0) - 1))))
        (λ s. tt)))
        (λ p. tt)

    -- all of them
    pub perform_law : (k w x y : ℕ) → T (is_valid o.n w) → (k ≡ 61 → T (is_valid o.n y)) → Kept room e o (perform e room o k w x y)
    unfolding perform
    perform_law k w x y v u =
        if_cases (Kept room e o) _ _ _ (λ p. computed_law (arithmetic k w x) (arithmetic_valid k w x))
        (λ p. if_cases (Kept room e o) _ _ _ (λ p. at_law w v x)
        (λ p. if_cases (Kept room e o) (eqb k 61) _ _ (λ p. at_put_law w v x y (u (eqb-true k 61 p)))
        (λ p. if_cases (Kept room e o) _ _ _ (λ p. size_law w v)
        (λ p. if_cases (Kept room e o) _ _ _ (λ p. new_law w)
        (λ p. if_cases (Kept room e o) _ _ _ (λ p. new_with_law w x)
        (λ p. if_cases (Kept room e o) _ _ _ (λ p. same_objects (boolean_word (eqb w x)) (boolean_valid (eqb w x)))
        (λ p. if_cases (Kept room e o) _ _ fails (λ p. same_objects (class_of o w) (class_valid_lem r w v)) (λ p. tt))))))))

    pub answer_law : (k count w : ℕ) (arguments : List ℕ) → count ≡ length arguments → T (is_valid o.n w) → T (every (is_valid o.n) arguments)
        → Kept room e o (primitive e room o k count w arguments)
    unfolding primitive primitive_count
    answer_law k count w arguments l v a =
        if_cases (Kept room e o) (eqb count (primitive_count k)) _ fails
        (λ p. perform_law k w (get_or arguments 0 0) (get_or arguments 1 0) v
        (λ q. let c : count ≡ 2 = eqb-true count (primitive_count k) p ∙ if_yes _ _ (eq-eqb k 61 q) in every_at (is_valid o.n) arguments a 1 (omega arith)))
        (λ p. tt)

-- from an outcome that answers
pub answered : (room : Room) (e : ℕ) (o : Objects) {z : Outcome} {v : ℕ} {o' : Objects} → Kept room e o z → z ≡ answers v o' → Performed room e o v o'
answered room e o t p = subst (Kept room e o) p t

pub primitive_law : {e : ℕ} {o o' : Objects} (room : Room) (k count w v : ℕ) (arguments : List ℕ) → Right e o → count ≡ length arguments → T (is_valid o.n w)
    → T (every (is_valid o.n) arguments) → primitive e room o k count w arguments ≡ answers v o' → Performed room e o v o'
primitive_law {e = e} {o = o} room k count w v arguments r l t a p = answered room e o (answer_law r room k count w arguments l t a) p
