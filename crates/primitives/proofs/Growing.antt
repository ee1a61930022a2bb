-- One more object at the end of the buffers (70, 71), an array and a message (02, M-104).
use Prim.Native.Nat.{ℕ, suc, ◌+◌, ◌*◌, ◌/◌, ◌≤◌, ◌-◌}
use mathlib.Core.Path.{◌≡◌, refl, sym, ap, ap₂, ◌∙◌, subst}
use mathlib.Core.Logic.{◌≢◌}
use mathlib.Core.Bool.{Bool, true, false, ◌&&◌}
use mathlib.Core.List.{List, [], ◌∷◌, ◌++◌}
use native.Mathlib.Omega.{arith}
use native.Mathlib.Decide.{dec_le}
use borrow.Author.Tests.{eq-eqb, ne_eqb, le-leb, lt-leb, le-ltb, lt-ltb}
use lib.Dec.{leb, eqb, ltb}
use lib.ListN.{length, take, set, replicate, length-append}
use lib.Seq.{sets, length-sets, length-take-le, take-add}
use Rattle.bytecode.specs.Constant.{nil_word}
use Rattle.bytecode.proofs.Choice.{if_yes, if_no}
use Rattle.std.specs.Prelude.{Option, Some, None}
use Rattle.model.specs.Limits.{entry_words, most_objects, largest_integer, fields_kind, bytes_kind, class_kind, fixed_form, indexed_form, bytes_form, message_fields}
use Rattle.model.specs.Word.{is_natural, pointer, message_class, array_class}
use Rattle.model.specs.Objects.{Objects, objects_at, is_kind, field_count, form, at_front, part}
use Rattle.model.specs.Image.{Room}
use Rattle.model.specs.Rules.{Right}
use Rattle.model.specs.Primitive.{Outcome, answers, fails, computed, appended, has_room, array_made, message_made, make, new, new_with}
use Rattle.model.proofs.Parts.{length_part}
use Rattle.model.proofs.Lent.{objects_eq, front_take, front_over}
use Rattle.words.proofs.Runs.{behind}
use Rattle.primitives.specs.declared.Done.{Done}
use Rattle.primitives.specs.Outcomes.{answer_of, objects_after, done_with, Does, Stand, MessageRoom}
use Rattle.objects.proofs.Buffers.{contents_room, bodies_room, front_same}

-- Four stores are one entry.
entered : (l : List ℕ) (at c k s z : ℕ) → at + entry_words ≤ length l
    → set (set (set (set l at c) (at + 1) k) (at + 2) s) (at + 3) z ≡ at_front (take at l ++ (c ∷ k ∷ s ∷ z ∷ [])) l
entered l at c k s z h =
    let one : at + 1 ≡ suc at = omega arith in
    let two : at + 2 ≡ suc (suc at) = omega arith in
    let three : at + 3 ≡ suc (suc (suc at)) = omega arith in
    rw (one, two, three) (behind l (c ∷ k ∷ s ∷ z ∷ []) at h)

-- What leaves the objects, and one outcome for another
pub does_computed : {e n b : ℕ} {contents bodies : List ℕ} {r : Done} {z : Outcome} (x : Option ℕ) → Right e (objects_at n b contents bodies) → r ≡ done_with x n b
    → computed (objects_at n b contents bodies) x ≡ z → Does (objects_at n b contents bodies) z r contents bodies contents bodies
unfolding answer_of objects_after
does_computed {n} {b} {contents} {bodies} {r} {z} x h e p =
    subst (λ (y : Done). Does (objects_at n b contents bodies) z y contents bodies contents bodies) (sym e)
    (subst (λ (y : Outcome). Does (objects_at n b contents bodies) y (done_with x n b) contents bodies contents bodies) p (go x))
  where
    entries : contents ≡ at_front (take (entry_words * n) contents) contents
    entries = sym (front_same (entry_words * n) contents (contents_room n b contents bodies h))

    words : bodies ≡ at_front (take b bodies) bodies
    words = sym (front_same b bodies (bodies_room n b contents bodies h))

    go : (x : Option ℕ) → Does (objects_at n b contents bodies) (computed (objects_at n b contents bodies) x) (done_with x n b) contents bodies contents bodies
    go (Some w) = record { answer = refl; count = refl; size = refl; entries = entries; words = words }
    go None = record { answer = refl; count = refl; size = refl; entries = entries; words = words }

pub does_none : {e n b : ℕ} {contents bodies : List ℕ} {r : Done} {z : Outcome} → Right e (objects_at n b contents bodies) → r ≡ done_with None n b → fails ≡ z
    → Does (objects_at n b contents bodies) z r contents bodies contents bodies
does_none = does_computed None

pub does_same : {o : Objects} {z z' : Outcome} {r : Done} {contents bodies contents' bodies' : List ℕ} → z ≡ z' → Does o z r contents bodies contents' bodies'
    → Does o z' r contents bodies contents' bodies'
does_same {o} {z} {z'} {r} {contents} {bodies} {contents'} {bodies'} p h = subst (λ (x : Outcome). Does o x r contents bodies contents' bodies') p h

-- Room for one more
module _ (room : Room) (o : Objects) (class kd sz count w : ℕ) where
  pub no_room : has_room room o count ≡ false → fails ≡ make room o class kd sz count w
  unfolding make
  no_room p = sym (if_no _ _ p)

  pub is_made : has_room room o count ≡ true → answers (pointer (o.n + 1)) (appended o class kd sz (replicate count w)) ≡ make room o class kd sz count w
  unfolding make
  is_made p = sym (if_yes _ _ p)

-- The entry of an object whose body stands
pub does_append : (n b class kd sz count : ℕ) (contents bodies : List ℕ) → entry_words * (n + 1) ≤ length contents → b + count ≤ length bodies
    → Does (objects_at n b contents bodies) (answers (pointer (n + 1)) (appended (objects_at n b contents bodies) class kd sz (part bodies b count)))
    (done_with (Some (pointer (n + 1))) (n + 1) (b + count)) contents bodies
    (set (set (set (set contents (entry_words * n) class) (entry_words * n + 1) kd) (entry_words * n + 2) b) (entry_words * n + 3) sz) bodies
unfolding answer_of objects_after appended
does_append n b class kd sz count contents bodies h g =
    record {
      answer = refl;
      count = refl;
      size = ap (λ (k : ℕ). b + k) (sym (length_part bodies b count g));
      entries = entered contents (entry_words * n) class kd b sz (omega arith);
      words = sym (front_same (b + count) bodies g) ∙ ap (λ (x : List ℕ). at_front x bodies) (take-add b count bodies);
    }

-- What it gives where the body was written behind those of other bodies, in the terms of these
pub does_written : {n b w count : ℕ} {r : Done} {contents contents' bodies bodies' : List ℕ} (class kd sz : ℕ) (body : List ℕ) → length body ≡ count → b + count ≤ length bodies
    → bodies' ≡ sets bodies b body
    → Does (objects_at n b contents bodies') (answers w (appended (objects_at n b contents bodies') class kd sz (part bodies' b count))) r contents bodies' contents' bodies'
    → Does (objects_at n b contents bodies) (answers w (appended (objects_at n b contents bodies) class kd sz body)) r contents bodies contents' bodies'
unfolding answer_of objects_after appended
does_written {b = b} {count = count} {bodies = bodies} {bodies' = bodies'} class kd sz body e h p d =
    record {
      answer = d.answer;
      count = d.count;
      size = d.size ∙ ap (λ (k : ℕ). b + k) (length_part bodies' b count long ∙ sym e);
      entries = d.entries;
      words = p ∙ behind bodies body b (omega arith);
    }
  where
    long : b + count ≤ length bodies'
    long = let l = ap length p ∙ length-sets bodies b body in omega arith

-- What was made stands in the buffers.
pub stand_of : {o o' : Objects} {w : ℕ} {r : Done} {contents bodies contents' bodies' : List ℕ} → Does o (answers w o') r contents bodies contents' bodies'
    → Stand o' contents bodies contents' bodies'
unfolding objects_after
stand_of d = record { entries = d.entries; words = d.words }

-- The array of a send's arguments
pub stands_array : {o : Objects} {w count : ℕ} {r : Done} {contents bodies contents' bodies' : List ℕ} (arguments : List ℕ) → length arguments ≡ count
    → Does o (answers w (appended o array_class fields_kind count arguments)) r contents bodies contents' bodies' → Stand (array_made o arguments) contents bodies contents' bodies'
unfolding array_made
stands_array {o} {contents = contents} {bodies} {contents'} {bodies'} arguments e d =
    subst (λ (k : ℕ). Stand (appended o array_class fields_kind k arguments) contents bodies contents' bodies') (sym e) (stand_of d)

pub two_words : (l : List ℕ) (b v w : ℕ) → set (set l b v) (b + 1) w ≡ sets l b (v ∷ w ∷ [])
two_words l b v w = ap (λ (k : ℕ). set (set l b v) k w) (next b)
  where
    next : (k : ℕ) → k + 1 ≡ suc k
    next k = omega arith

-- and the message behind it
module _ (n b count selector : ℕ) (contents bodies contents₁ bodies₁ contents' bodies' arguments : List ℕ) (room : MessageRoom n b count contents bodies) (long : length arguments ≡ count)
    (first : Stand (array_made (objects_at n b contents bodies) arguments) contents bodies contents₁ bodies₁)
    (second : Stand (appended (objects_at (n + 1) (b + count) contents₁ bodies₁) message_class fields_kind message_fields (selector ∷ pointer (n + 1) ∷ [])) contents₁ bodies₁ contents' bodies') where
  abbrev o₁ : Objects
  o₁ = array_made (objects_at n b contents bodies) arguments

  entries_long : length o₁.contents ≡ entry_words * (n + 1)
  unfolding array_made appended
  entries_long =
      let q = room.entries in
      length-append (take (entry_words * n) contents) (array_class ∷ fields_kind ∷ b ∷ length arguments ∷ [])
      ∙ ap (λ (k : ℕ). k + 4) (length-take-le (entry_words * n) contents (omega arith)) ∙ omega arith

  words_long : length o₁.bodies ≡ b + count
  unfolding array_made appended
  words_long =
      let q = room.inside in length-append (take b bodies) arguments ∙ ap₂ ◌+◌ (length-take-le b bodies (omega arith)) long

  between : objects_at (n + 1) (b + count) contents₁ bodies₁ ≡ o₁
  between =
      objects_eq (unfold array_made appended in refl) (unfold array_made appended in ap (λ (k : ℕ). b + k) (sym long))
      (ap (take (entry_words * (n + 1))) first.entries ∙ front_take o₁.contents contents (entry_words * (n + 1)) entries_long)
      (ap (take (b + count)) first.words ∙ front_take o₁.bodies bodies (b + count) words_long)

  pub stands_message : Stand (message_made (objects_at n b contents bodies) selector arguments) contents bodies contents' bodies'
  unfolding message_made
  stands_message =
      let d = subst (λ (o : Objects). Stand (appended o message_class fields_kind message_fields (selector ∷ pointer (n + 1) ∷ [])) contents₁ bodies₁ contents' bodies') between second in
      record { entries = d.entries ∙ over_entries; words = d.words ∙ over_words }
    where
      over_entries : at_front (appended o₁ message_class fields_kind message_fields (selector ∷ pointer (n + 1) ∷ [])).contents contents₁
          ≡ at_front (appended o₁ message_class fields_kind message_fields (selector ∷ pointer (n + 1) ∷ [])).contents contents
      over_entries =
          let ws = (appended o₁ message_class fields_kind message_fields (selector ∷ pointer (n + 1) ∷ [])).contents in
          let q = room.entries in
          let l = entries_long in
          ap (at_front ws) first.entries ∙ front_over ws o₁.contents contents
          (unfold appended in (let k = length-append o₁.contents (message_class ∷ fields_kind ∷ o₁.b ∷ message_fields ∷ []) in omega arith)) (omega arith)

      over_words : at_front (appended o₁ message_class fields_kind message_fields (selector ∷ pointer (n + 1) ∷ [])).bodies bodies₁
          ≡ at_front (appended o₁ message_class fields_kind message_fields (selector ∷ pointer (n + 1) ∷ [])).bodies bodies
      over_words =
          let ws = (appended o₁ message_class fields_kind message_fields (selector ∷ pointer (n + 1) ∷ [])).bodies in
          let q = room.inside in
          let l = words_long in
          ap (at_front ws) first.words ∙ front_over ws o₁.bodies bodies
          (unfold appended in (let k = length-append o₁.bodies (selector ∷ pointer (n + 1) ∷ []) in omega arith)) (omega arith)

-- 70 and 71, case by case
module _ (room : Room) (o : Objects) (w : ℕ) where
  pub new_no_class : is_kind o class_kind w ≡ false → fails ≡ new room o w
  unfolding new
  new_no_class p = sym (if_no _ _ (ap (λ (t : Bool). t && eqb (form o w) fixed_form) p))

  pub with_no_class : (x : ℕ) → is_kind o class_kind w ≡ false → fails ≡ new_with room o w x
  unfolding new_with
  with_no_class x p = sym (if_no _ _ (ap (λ (t : Bool). t && is_natural largest_integer x) p))

  module _ (t : is_kind o class_kind w ≡ true) where
    pub new_other : {f : ℕ} → f ≡ form o w → f ≢ 0 → fails ≡ new room o w
    unfolding new
    new_other e d = sym (if_no _ _ (ap₂ ◌&&◌ t (ne_eqb (form o w) fixed_form (λ q. d (e ∙ q)))))

    pub new_is : {f k : ℕ} → f ≡ form o w → f ≡ 0 → k ≡ field_count o w → make room o w fields_kind k k nil_word ≡ new room o w
    unfolding new
    new_is e d p =
        ap (λ (j : ℕ). make room o w fields_kind j j nil_word) p ∙ sym (if_yes _ _ (ap₂ ◌&&◌ t (eq-eqb (form o w) fixed_form (sym e ∙ d))))

    pub with_no_natural : (x : ℕ) → is_natural largest_integer x ≡ false → fails ≡ new_with room o w x
    unfolding new_with
    with_no_natural x p = sym (if_no _ _ (ap₂ ◌&&◌ t p))

    module _ (x : ℕ) {f i : ℕ} (a : (is_natural largest_integer x ≡ true) × (i ≡ x / 2)) (e : f ≡ form o w) where
      fine : (is_kind o class_kind w && is_natural largest_integer x) ≡ true
      fine = ap₂ ◌&&◌ t a.0

      pub with_words : {k : ℕ} → f ≡ 1 → k ≡ field_count o w → make room o w fields_kind (k + i) (k + i) nil_word ≡ new_with room o w x
      unfolding new_with
      with_words d p =
          ap₂ (λ (j l : ℕ). make room o w fields_kind (j + l) (j + l) nil_word) p a.1
          ∙ sym (if_yes _ _ fine ∙ if_yes _ _ (eq-eqb (form o w) indexed_form (sym e ∙ d)))

      pub with_bytes : f ≡ 2 → make room o w bytes_kind i ((i + 1) / 2) 0 ≡ new_with room o w x
      unfolding new_with
      with_bytes d =
          ap (λ (j : ℕ). make room o w bytes_kind j ((j + 1) / 2) 0) a.1
          ∙ sym (if_yes _ _ fine ∙ if_no _ _ (ne_eqb (form o w) indexed_form one) ∙ if_yes _ _ (eq-eqb (form o w) bytes_form (sym e ∙ d)))
        where
          one : form o w ≢ indexed_form
          one q = omega arith

      pub with_other : f ≢ 1 → f ≢ 2 → fails ≡ new_with room o w x
      unfolding new_with
      with_other c d =
          sym (if_yes _ _ fine ∙ if_no _ _ (ne_eqb (form o w) indexed_form (λ q. c (e ∙ q))) ∙ if_no _ _ (ne_eqb (form o w) bytes_form (λ q. d (e ∙ q))))

-- one object more, or two, are as many as there may be
pub one_more : (n : ℕ) → leb n (most_objects - 1) ≡ ltb n most_objects
one_more n = by_size (dec_le n 2046)
  where
    by_size : Dec (n ≤ 2046) → leb n (most_objects - 1) ≡ ltb n most_objects
    by_size (yes l) = le-leb n 2046 l ∙ sym (lt-ltb n 2047 (omega arith))
    by_size (no g) = lt-leb n 2046 (omega arith) ∙ sym (le-ltb n 2047 (omega arith))

pub two_more : (n : ℕ) → leb n (most_objects - 2) ≡ leb (n + 2) most_objects
two_more n = by_size (dec_le n 2045)
  where
    by_size : Dec (n ≤ 2045) → leb n (most_objects - 2) ≡ leb (n + 2) most_objects
    by_size (yes l) = le-leb n 2045 l ∙ sym (le-leb (n + 2) 2047 (omega arith))
    by_size (no g) = lt-leb n 2045 (omega arith) ∙ sym (lt-leb (n + 2) 2047 (omega arith))
