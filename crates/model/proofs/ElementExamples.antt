-- Elements behind named fields (02, M-103), worked.
use Prim.Native.Nat.{ℕ}
use mathlib.Core.Path.{◌≡◌, refl}
use mathlib.Core.List.{List, [], ◌∷◌}
use Rattle.bytecode.specs.Test.{when◌then◌else◌}
use Rattle.model.specs.Limits.{fields_kind, bytes_kind, class_kind}
use Rattle.model.specs.Word.{pointer}
use Rattle.model.specs.Objects.{Objects, class_of, part}
use Rattle.model.specs.Primitive.{Outcome, answers, fails, store_word, store_byte, object_byte, is_indexable, is_index, at, at_put, size_answer}

-- Classes of form 1 with 0, 1, 255 and 100 named fields, and one of form 2. Of 10 to 15 only the sizes are asked, so their bodies are left out.
objects : Objects
objects =
    record {
      n = 15;
      b = 29;
      contents =
          2 ∷ class_kind ∷ 0 ∷ 4 ∷
          2 ∷ class_kind ∷ 4 ∷ 4 ∷
          2 ∷ class_kind ∷ 8 ∷ 4 ∷
          2 ∷ class_kind ∷ 12 ∷ 4 ∷
          2 ∷ class_kind ∷ 16 ∷ 4 ∷
          pointer 2 ∷ fields_kind ∷ 20 ∷ 3 ∷
          pointer 1 ∷ fields_kind ∷ 23 ∷ 3 ∷
          pointer 2 ∷ fields_kind ∷ 26 ∷ 1 ∷
          pointer 5 ∷ bytes_kind ∷ 27 ∷ 3 ∷
          pointer 3 ∷ fields_kind ∷ 29 ∷ 258 ∷
          pointer 3 ∷ fields_kind ∷ 29 ∷ 255 ∷
          pointer 4 ∷ fields_kind ∷ 29 ∷ 16400 ∷
          pointer 2 ∷ fields_kind ∷ 29 ∷ 16384 ∷
          pointer 2 ∷ fields_kind ∷ 29 ∷ 16385 ∷
          pointer 1 ∷ fields_kind ∷ 29 ∷ 16384 ∷
          [];
      bodies =
          2 ∷ 2 ∷ 1 ∷ 3 ∷
          2 ∷ 2 ∷ 3 ∷ 3 ∷
          2 ∷ 2 ∷ 511 ∷ 3 ∷
          2 ∷ 2 ∷ 201 ∷ 3 ∷
          2 ∷ 2 ∷ 1 ∷ 5 ∷
          41 ∷ 43 ∷ 45 ∷
          51 ∷ 53 ∷ 55 ∷
          61 ∷
          24930 ∷ 25344 ∷
          [];
    }

-- What is answered, 0 for a failure; and three words of the bodies then
answer : Outcome → ℕ
answer (answers w o) = w
answer fails = 0

three : Outcome → ℕ → List ℕ
three (answers w o) i = part o.bodies i 3
three fails i = []

record Elements : Type 0 where
  -- one named field, 41, then the elements 43 and 45
  size_behind : answer (size_answer objects (pointer 6)) ≡ 5
  index_zero : answer (at objects (pointer 6) 1) ≡ 0
  the_first : answer (at objects (pointer 6) 3) ≡ 43
  the_last : answer (at objects (pointer 6) 5) ≡ 45
  one_past : answer (at objects (pointer 6) 7) ≡ 0
  stored : three (at_put objects (pointer 6) 3 77) 20 ≡ 41 ∷ 77 ∷ 45 ∷ []
  stored_last : three (at_put objects (pointer 6) 5 77) 20 ≡ 41 ∷ 43 ∷ 77 ∷ []
  not_stored : three (at_put objects (pointer 6) 7 77) 20 ≡ []
  -- none
  size_whole : answer (size_answer objects (pointer 7)) ≡ 7
  whole_first : answer (at objects (pointer 7) 3) ≡ 51
  whole_last : answer (at objects (pointer 7) 7) ≡ 55
  -- nothing but named fields
  size_none : answer (size_answer objects (pointer 8)) ≡ 1
  no_first : answer (at objects (pointer 8) 3) ≡ 0
  -- bytes
  size_bytes : answer (size_answer objects (pointer 9)) ≡ 7
  first_byte : answer (at objects (pointer 9) 3) ≡ 195
  last_byte : answer (at objects (pointer 9) 7) ≡ 199
  stored_byte : three (at_put objects (pointer 9) 3 1) 26 ≡ 61 ∷ 98 ∷ 25344 ∷ []
  -- 255 named fields
  size_most_named : answer (size_answer objects (pointer 10)) ≡ 7
  none_most_named : answer (size_answer objects (pointer 11)) ≡ 1
  -- 16,400 words with 100 named fields; 16,383 and 16,384 elements
  size_large : answer (size_answer objects (pointer 12)) ≡ 32601
  size_largest : answer (size_answer objects (pointer 13)) ≡ 32767
  size_over : answer (size_answer objects (pointer 14)) ≡ 0
  size_over_whole : answer (size_answer objects (pointer 15)) ≡ 0

elements : Elements
unfolding objects answer three when◌then◌else◌ class_of is_indexable is_index at at_put size_answer store_word store_byte object_byte
elements =
    record {
      size_behind = refl;
      index_zero = refl;
      the_first = refl;
      the_last = refl;
      one_past = refl;
      stored = refl;
      stored_last = refl;
      not_stored = refl;
      size_whole = refl;
      whole_first = refl;
      whole_last = refl;
      size_none = refl;
      no_first = refl;
      size_bytes = refl;
      first_byte = refl;
      last_byte = refl;
      stored_byte = refl;
      size_most_named = refl;
      none_most_named = refl;
      size_large = refl;
      size_largest = refl;
      size_over = refl;
      size_over_whole = refl;
    }
