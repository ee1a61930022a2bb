-- The array and the message of a send that failed (02, M-104): right objects stay right, and the message is one of them.
use Prim.Native.Nat.{ℕ, zero, suc, ◌+◌, ◌*◌, ◌/◌, ◌%◌, ◌≤◌, ◌<◌}
use mathlib.Core.Path.{◌≡◌, refl, sym, ap, ◌∙◌}
use mathlib.Core.Logic.{◌≢◌}
use mathlib.Core.Bool.{Bool, true, false, ◌&&◌}
use mathlib.Core.List.{List, [], ◌∷◌}
use native.Mathlib.Omega.{arith}
use borrow.Author.Tests.{ne_eqb, eqb-true}
use lib.Dec.{T, leb, eqb, leb→le}
use lib.ListN.{length, get_or}
use Rattle.bytecode.specs.Test.{when◌then◌else◌, every}
use Rattle.bytecode.specs.Constant.{false_word}
use Rattle.bytecode.proofs.Choice.{if_no, if_eq, if_cases}
use Rattle.bytecode.proofs.TestLaws.{and_left, and_right, every_at}
use Rattle.model.specs.Limits.{has_messages, most_objects, most_body_words, entry_words, fields_kind, class_kind, largest_integer, message_fields}
use Rattle.model.specs.Word.{is_integer, is_natural, is_valid, pointer, boolean_word, message_class, array_class}
use Rattle.model.specs.Objects.{Objects, is_kind}
use Rattle.model.specs.Image.{Room}
use Rattle.model.specs.Arithmetic.{arithmetic}
use Rattle.model.specs.Primitive.{Outcome, answers, fails, element_count, is_indexable, is_index, at, new_with, computed, perform, primitive_count, primitive, appended, array_made, message_made, message_word, has_message_room}
use Rattle.model.proofs.Facts.{Right, valid_name, valid_more, message_facts, message_class_lem, array_class_lem}
use Rattle.model.proofs.Extends.{extends_trans}
use Rattle.model.proofs.AppendLaws.{HasRoom, at_least, as_many}
use Rattle.model.proofs.PrimitiveLaws.{Performed, append_law}

-- Room for both
pub record HasMessageRoom (room : Room) (o : Objects) (count : ℕ) : Type 0 where
  pub objects : o.n + 2 ≤ most_objects
  pub words : o.b + (count + message_fields) ≤ most_body_words
  pub contents : entry_words * (o.n + 2) ≤ room.contents
  pub bodies : o.b + (count + message_fields) ≤ room.bodies

pub message_room : (room : Room) (o : Objects) (count : ℕ) → T (has_message_room room o count) → HasMessageRoom room o count
unfolding has_message_room
message_room room o count t =
    let p : T (leb (o.b + (count + message_fields)) most_body_words && (leb (entry_words * (o.n + 2)) room.contents && leb (o.b + (count + message_fields)) room.bodies)) = and_right (leb (o.n + 2) most_objects) _ t in
    let q : T (leb (entry_words * (o.n + 2)) room.contents && leb (o.b + (count + message_fields)) room.bodies) = and_right (leb (o.b + (count + message_fields)) most_body_words) _ p in
    record {
      objects = leb→le (o.n + 2) most_objects (and_left (leb (o.n + 2) most_objects) _ t);
      words = leb→le (o.b + (count + message_fields)) most_body_words (and_left (leb (o.b + (count + message_fields)) most_body_words) _ p);
      contents = leb→le (entry_words * (o.n + 2)) room.contents (and_left (leb (entry_words * (o.n + 2)) room.contents) _ q);
      bodies = leb→le (o.b + (count + message_fields)) room.bodies (and_right (leb (entry_words * (o.n + 2)) room.contents) _ q);
    }

module _ {e : ℕ} {o : Objects} (r : Right e o) (t : T (has_messages e)) (room : Room) (selector : ℕ) (arguments : List ℕ)
    (v : T (is_valid o.n selector)) (va : T (every (is_valid o.n) arguments)) (h : HasMessageRoom room o (length arguments)) where
  -- the array
  array_law : Performed room e o (pointer (o.n + 1)) (array_made o arguments)
  unfolding array_made
  array_law =
      append_law r room array_class fields_kind (length arguments) arguments (array_class_lem r t)
      (at_least refl (message_facts r t).array_form (let f = (message_facts r t).array_fields in omega arith) refl
      (λ i l. valid_more o.n (o.n + 1) (get_or arguments i 0) (omega arith) (every_at (is_valid o.n) arguments va i l)))
      (record { objects = let a = h.objects in omega arith; words = let a = h.words in omega arith; contents = let a = h.contents in omega arith; bodies = let a = h.bodies in omega arith })

  abbrev between : Objects
  between = array_made o arguments

  body_valid : (i : ℕ) → i < 2 → T (is_valid (between.n + 1) (get_or (selector ∷ pointer (o.n + 1) ∷ []) i 0))
  unfolding array_made appended
  body_valid zero l = valid_more o.n (o.n + 1 + 1) selector (omega arith) v
  body_valid (suc zero) l = valid_name (o.n + 1 + 1) (pointer (o.n + 1)) (omega arith) (omega arith) (omega arith)
  body_valid (suc (suc i)) l = absurd (omega arith)

  room_between : HasRoom room between 2
  unfolding array_made appended
  room_between = record { objects = let a = h.objects in omega arith; words = let a = h.words in omega arith; contents = let a = h.contents in omega arith; bodies = let a = h.bodies in omega arith }

  -- and the message behind it
  pub message_law : Performed room e o (message_word o) (message_made o selector arguments)
  unfolding message_made
  message_law =
      let a = array_law in
      let m = message_facts a.right t in
      let p = append_law a.right room message_class fields_kind message_fields (selector ∷ pointer (o.n + 1) ∷ []) (message_class_lem a.right t) (as_many refl m.message_form (sym m.message_fields_lem) refl body_valid) room_between in
      record {
        right = p.right;
        extends = extends_trans a.extends p.extends;
        valid = (unfold array_made appended in valid_name (o.n + 1 + 1) (message_word o) (omega arith) (omega arith) (omega arith));
        contents = λ q. p.contents (a.contents q);
        bodies = λ q. p.bodies (a.bodies q);
      }

-- A message is no integer, so that of all primitives that take one argument only 110 succeeds with it.
module _ (e : ℕ) (room : Room) (o : Objects) (w x : ℕ) (even : x % 2 ≡ 0) where
  no_integer : is_integer x ≡ false
  no_integer = ne_eqb (x % 2) 1 (omega arith)

  no_natural : (most : ℕ) → is_natural most x ≡ false
  no_natural most = ap (λ (t : Bool). t && leb (x / 2) most) no_integer

  abbrev Fails : Outcome → Type 0
  Fails z = z ≡ fails

  both_no : (a b : Bool) → b ≡ false → (a && b) ≡ false
  both_no true b h = h
  both_no false b h = refl

  arithmetic_fails : (k : ℕ) → Fails (computed o (arithmetic k w x))
  unfolding arithmetic
  arithmetic_fails k = ap (computed o) (if_no _ _ (both_no (is_integer w) (is_integer x) no_integer))

  at_fails : Fails (at o w x)
  unfolding at is_index
  at_fails = if_no _ _ (both_no (is_indexable o w) _ (ap (λ (t : Bool). t && (leb 1 (x / 2) && leb (x / 2) (element_count o w))) (no_natural largest_integer)))

  new_fails : Fails (new_with room o w x)
  unfolding new_with
  new_fails = if_no _ _ (both_no (is_kind o class_kind w) (is_natural largest_integer x) (no_natural largest_integer))

  -- those that take another count
  other_count : (k : ℕ) → primitive_count k ≢ 1 → eqb 1 (primitive_count k) ≡ false
  other_count k h = ne_eqb 1 (primitive_count k) (λ q. h (sym q))

  pub message_fails : (k : ℕ) → k ≢ 110 → primitive e room o k 1 w (x ∷ []) ≡ fails
  unfolding primitive perform
  message_fails k h =
      if_cases Fails (eqb 1 (primitive_count k)) _ fails
      (λ one. let c = eqb-true 1 (primitive_count k) one in
      if_cases Fails _ _ _ (λ p. arithmetic_fails k)
      (λ p. if_cases Fails (eqb k 60) _ _ (λ p. at_fails)
      (λ p. if_cases Fails (eqb k 61) _ _ (λ p. absurd (two k c (eqb-true k 61 p)))
      (λ p. if_cases Fails (eqb k 62) _ _ (λ p. absurd (none_62 k c (eqb-true k 62 p)))
      (λ p. if_cases Fails (eqb k 70) _ _ (λ p. absurd (none_70 k c (eqb-true k 70 p)))
      (λ p. if_cases Fails (eqb k 71) _ _ (λ p. new_fails)
      (λ p. if_cases Fails (eqb k 110) _ _ (λ p. absurd (h (eqb-true k 110 p)))
      (λ p. if_cases Fails (eqb k 111) _ _ (λ p. absurd (none_111 k c (eqb-true k 111 p))) (λ p. refl)))))))))
      (λ p. refl)
    where
      two : (k : ℕ) → 1 ≡ primitive_count k → k ≡ 61 → ⊥
      two k c q = let z : primitive_count k ≡ 2 = (unfold primitive_count in if_eq k 61 2 _ q) in omega arith

      none_62 : (k : ℕ) → 1 ≡ primitive_count k → k ≡ 62 → ⊥
      none_62 k c q = let z : primitive_count k ≡ 0 = ap primitive_count q ∙ (unfold primitive_count when◌then◌else◌ in refl) in omega arith

      none_70 : (k : ℕ) → 1 ≡ primitive_count k → k ≡ 70 → ⊥
      none_70 k c q = let z : primitive_count k ≡ 0 = ap primitive_count q ∙ (unfold primitive_count when◌then◌else◌ in refl) in omega arith

      none_111 : (k : ℕ) → 1 ≡ primitive_count k → k ≡ 111 → ⊥
      none_111 k c q = let z : primitive_count k ≡ 0 = ap primitive_count q ∙ (unfold primitive_count when◌then◌else◌ in refl) in omega arith

  pub identity_answers : w ≢ x → primitive e room o 110 1 w (x ∷ []) ≡ answers false_word o
  unfolding primitive perform primitive_count when◌then◌else◌
  identity_answers h = ap (λ (t : Bool). answers (boolean_word t) o) (ne_eqb w x h)
