-- Rule 6 in the parts of specs/Shape.antt is rule 6; each of its tests, and rule 14, by the tests that it is made of.
use Prim.Native.Nat.{ℕ, suc, ◌≤◌}
use mathlib.Core.Path.{◌≡◌, refl, sym, ap, ◌∙◌, fun_ext}
use mathlib.Core.Logic.{◌≢◌}
use mathlib.Core.Bool.{Bool, true, false, ◌&&◌, ◌||◌, not}
use mathlib.Core.List.{List}
use native.Mathlib.Omega.{arith}
use borrow.Author.Tests.{eq-eqb, ne_eqb, eqb-true}
use lib.Dec.{eqb, leb}
use Rattle.bytecode.specs.Test.{up_to, every, implies, all_of}
use Rattle.bytecode.specs.Constant.{nil_word}
use Rattle.bytecode.proofs.TestLaws.{true→T, T→true, and_right}
use Rattle.model.specs.Limits.{has_messages, failure_selector_object, message_class_object, array_class_object, message_fields, fixed_form, indexed_form}
use Rattle.model.specs.Limits.{bytes_kind, class_kind, list_kind, other_form, integer_class_object, selectors_object, special_selectors, most_fields, last_form, bytes_form}
use Rattle.model.specs.Word.{is_natural, pointer, integer_class, message_class, array_class}
use Rattle.model.specs.Objects.{Objects, objects_at, class_word, kind, size, body_of, is_kind, is_nil_or, superclass_word, dictionary_word, fields_word, form_word, field_count, form, entries_at}
use Rattle.model.specs.Lookup.{ends_within}
use Rattle.model.specs.Rules.{fits, entry_fine, dictionary_fine, class_rules, message_object_rules, known_object_rules, object_fine, rule6}
use Rattle.model.proofs.Parts.{or_right}
use Rattle.model.proofs.ChainLaws.{ends_class}
use Rattle.rules.specs.Shape.{fits_form, numbers_fine, kinds_fine, selectors_fine, rises_fine, shape_rules, shape_fine, class_is}
use Rattle.readers.proofs.Loops.{and_true}
use Rattle.readers.proofs.Names.{names_kind}

-- the rules of a class, F and form put together
numbers_first : (x c r₀ r₁ r₂ r₃ r₄ r₅ r₆ : Bool)
    → (x && implies c (r₀ && (r₁ && (r₂ && (r₃ && (r₄ && (r₅ && (r₆ && true))))))))
    ≡ (x && implies c (r₀ && (r₁ && ((r₂ && (r₃ && r₄)) && (r₅ && (r₆ && true))))))
numbers_first false c r₀ r₁ r₂ r₃ r₄ r₅ r₆ = refl
numbers_first true false r₀ r₁ r₂ r₃ r₄ r₅ r₆ = refl
numbers_first true true false r₁ r₂ r₃ r₄ r₅ r₆ = refl
numbers_first true true true false r₂ r₃ r₄ r₅ r₆ = refl
numbers_first true true true true false r₃ r₄ r₅ r₆ = refl
numbers_first true true true true true false r₄ r₅ r₆ = refl
numbers_first true true true true true true r₄ r₅ r₆ = refl

shape_is : (e : ℕ) (o : Objects) (k : ℕ) → object_fine e o k ≡ shape_fine e o k
unfolding object_fine class_rules shape_fine shape_rules numbers_fine rises_fine
shape_is e o k =
    let c : ℕ = pointer k in
    numbers_first (entry_fine e o k) (eqb (kind o k) class_kind) (is_nil_or o class_kind (superclass_word o c)) (is_kind o list_kind (dictionary_word o c))
    (is_natural most_fields (fields_word o c)) (is_natural (last_form e) (form_word o c)) (implies (leb bytes_form (form o c)) (eqb (field_count o c) 0))
    (implies (not (eqb (superclass_word o c) nil_word)) (leb (field_count o (superclass_word o c)) (field_count o c))) (dictionary_fine o (dictionary_word o c))

pub shaped : (e : ℕ) (o : Objects) → rule6 e o ≡ (all_of (known_object_rules e o) && up_to o.n (shape_fine e o))
unfolding rule6
shaped e o = ap (λ (x : Bool). all_of (known_object_rules e o) && x) (ap (up_to o.n) (fun_ext (shape_is e o)))

-- the known objects
known_order : (a b c d f k s e m : Bool)
    → (a && (b && (c && (d && (f && (k && (s && (e && (m && true))))))))) ≡ ((a && (b && (c && d))) && (f && ((k && (s && e)) && m)))
known_order false b c d f k s e m = refl
known_order true false c d f k s e m = refl
known_order true true false d f k s e m = refl
known_order true true true false f k s e m = refl
known_order true true true true false k s e m = refl
known_order true true true true true false s e m = refl
known_order true true true true true true false e m = refl
known_order true true true true true true true false m = refl
known_order true true true true true true true true m = and_true m

module _ (e : ℕ) (o : Objects) where
  abbrev pub M : Bool
  M = implies (has_messages e) (all_of (message_object_rules o))

  abbrev pub F : Bool
  F = eqb (form o integer_class) other_form

  pub known_split : all_of (known_object_rules e o) ≡ (kinds_fine o && (F && (selectors_fine o && M)))
  unfolding known_object_rules selectors_fine
  known_split =
      known_order (eqb (kind o 1) 0) (eqb (kind o 2) 0) (eqb (kind o 3) 0) (eqb (kind o 4) 2) F
      (eqb (kind o selectors_object) list_kind) (eqb (size o selectors_object) special_selectors) (every (is_nil_or o bytes_kind) (body_of o selectors_object)) M

pub integer_class_kind : (o : Objects) → 5 ≤ o.n → kinds_fine o ≡ true → is_kind o class_kind integer_class ≡ true
integer_class_kind o h e = names_kind o integer_class_object class_kind (omega arith) (omega arith) (last (eqb (kind o 1) 0) (eqb (kind o 2) 0) (eqb (kind o 3) 0) e)
  where
    last : (a b c : Bool) → (a && (b && (c && eqb (kind o 4) 2))) ≡ true → kind o integer_class_object ≡ class_kind
    last a b c q =
        eqb-true (kind o 4) 2 (T→true (eqb (kind o 4) 2)
        (and_right c (eqb (kind o 4) 2) (and_right b (c && eqb (kind o 4) 2) (and_right a (b && (c && eqb (kind o 4) 2)) (true→T q)))))

pub selectors_words : (o : Objects) → kind o selectors_object ≡ list_kind → size o selectors_object ≡ special_selectors
    → every (is_nil_or o bytes_kind) (body_of o selectors_object) ≡ selectors_fine o
unfolding selectors_fine
selectors_words o h g = rw (eq-eqb (kind o selectors_object) list_kind h, eq-eqb (size o selectors_object) special_selectors g)

-- a class with a fixed number, of another form
pub other_form_lem : (o : Objects) (k of fields : ℕ) → kind o k ≡ class_kind → form o (pointer k) ≢ of → false ≡ class_is o k of fields
unfolding class_is
other_form_lem o k of fields h g = rw (eq-eqb (kind o k) class_kind h, ne_eqb (form o (pointer k)) of g)

-- the objects of messages
message_order : (s k f n l g m : Bool) → (s && (k && (f && (n && (l && (g && (m && true))))))) ≡ (s && ((k && (f && n)) && (l && (g && m))))
message_order false k f n l g m = refl
message_order true false f n l g m = refl
message_order true true false n l g m = refl
message_order true true true false l g m = refl
message_order true true true true false g m = refl
message_order true true true true true false m = refl
message_order true true true true true true m = and_true m

module _ (e : ℕ) (o : Objects) where
  abbrev C : Bool
  C = class_is o message_class_object fixed_form message_fields

  abbrev A : Bool
  A = class_is o array_class_object indexed_form 0

  message_split : all_of (message_object_rules o) ≡ (eqb (kind o failure_selector_object) bytes_kind && (C && A))
  unfolding message_object_rules class_is
  message_split =
      message_order (eqb (kind o 6) 1) (eqb (kind o 7) 2) (eqb (form o message_class) 0) (eqb (field_count o message_class) 2)
      (eqb (kind o 8) 2) (eqb (form o array_class) 1) (eqb (field_count o array_class) 0)

  pub with_messages : has_messages e ≡ true → M e o ≡ (eqb (kind o failure_selector_object) bytes_kind && (C && A))
  with_messages h = ap (λ (x : Bool). implies x (all_of (message_object_rules o))) h ∙ message_split

-- kinds do not depend on the bodies
pub nil_or_entries : (n b : ℕ) (contents bodies : List ℕ) (k : ℕ) (ws : List ℕ) → every (is_nil_or (entries_at n contents) k) ws ≡ every (is_nil_or (objects_at n b contents bodies) k) ws
unfolding is_kind
nil_or_entries n b contents bodies k ws = refl

-- an entry
pub entry_no : (e : ℕ) (o : Objects) (k : ℕ) → is_kind o class_kind (class_word o k) ≡ false → entry_fine e o k ≡ false
unfolding entry_fine
entry_no e o k t = rw t

pub entry_yes : (e : ℕ) (o : Objects) (k : ℕ) → is_kind o class_kind (class_word o k) ≡ true
    → entry_fine e o k ≡ fits_form (form o (class_word o k)) (field_count o (class_word o k)) (kind o k) (size o k)
unfolding entry_fine fits fits_form
entry_yes e o k t = rw t

-- the superclass
pub nil_or_class : (o : Objects) (w : ℕ) → is_nil_or o class_kind w ≡ true → w ≢ nil_word → is_kind o class_kind w ≡ true
nil_or_class o w e h = ap (λ (x : Bool). x || is_kind o class_kind w) (sym (ne_eqb w nil_word h)) ∙ e

pub class_or_nil : (o : Objects) (w : ℕ) → is_kind o class_kind w ≡ true → is_nil_or o class_kind w ≡ true
class_or_nil o w e = T→true (is_nil_or o class_kind w) (or_right (eqb w nil_word) (is_kind o class_kind w) (true→T e))

-- a turn along a chain
pub chain_turn : (o : Objects) (left rest c : ℕ) → left ≡ suc rest → is_kind o class_kind c ≡ true → ends_within left o c ≡ ends_within rest o (superclass_word o c)
chain_turn o left rest c e h = ap (λ (k : ℕ). ends_within k o c) e ∙ ends_class o rest c h

pub chain_last_turn : (o : Objects) (left c : ℕ) → left ≡ 0 → ends_within left o c ≡ not (is_kind o class_kind c)
unfolding ends_within
chain_last_turn o left c e = ap (λ (k : ℕ). ends_within k o c) e
