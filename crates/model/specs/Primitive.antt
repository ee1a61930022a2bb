-- The primitives (01, "Plain machine": "Primitives"): 1 to 17 by specs/Arithmetic.antt, 60 to 62, 70, 71, 110, 111. One that fails
-- changes nothing; every other number fails.
use Rattle.std.specs.Prelude.{ℕ, ◌+◌, ◌-◌, ◌*◌, ◌/◌, ◌%◌, Bool, ◌&&◌, ◌||◌, not, List, [], ◌∷◌, ◌++◌, leb, ltb, eqb, length, get_or, set, replicate, Option, Some, None}
use Rattle.bytecode.specs.Test.{when◌then◌else◌}
use Rattle.bytecode.specs.Constant.{nil_word}
use Rattle.model.specs.Limits.{most_objects, most_body_words, largest_integer, most_elements, entry_words, fields_kind, bytes_kind, class_kind, fixed_form, indexed_form, bytes_form, message_fields}
use Rattle.model.specs.Word.{is_integer, is_natural, pointer, object_number, boolean_word, message_class, array_class}
use Rattle.model.specs.Objects.{Objects, class_of, form, size, start, body_word, field_count, is_kind}
use Rattle.model.specs.Image.{Room}
use Rattle.model.specs.Arithmetic.{arithmetic}

-- The answer and the objects after it, or failure
pub data Outcome : Type 0 where
  answers : ℕ → Objects → Outcome
  fails : Outcome

-- Word i (from 0) of object k becomes w.
unfoldable pub store_word : Objects → ℕ → ℕ → ℕ → Objects
store_word o k i w = record { n = o.n; b = o.b; contents = o.contents; bodies = set o.bodies (start o k + i) w }

-- Byte i (from 0) of object k, and the objects in which it becomes v: the other half of its word stays.
unfoldable pub object_byte : Objects → ℕ → ℕ → ℕ
object_byte o k i = when eqb (i % 2) 0 then body_word o k (i / 2) / 256 else body_word o k (i / 2) % 256

unfoldable pub store_byte : Objects → ℕ → ℕ → ℕ → Objects
store_byte o k i v =
    store_word o k (i / 2)
    (when eqb (i % 2) 0 then v * 256 + body_word o k (i / 2) % 256 else body_word o k (i / 2) / 256 * 256 + v)

-- 02, M-103: elements stand behind the F named fields of the object's class, of which form 2 has none: where in the body they start, and how
-- many there are. Right objects of forms 1 and 2 have no fewer words or bytes than F (`elements_fill`, proofs/ElementLaws.antt).
abbrev pub element_start : Objects → ℕ → ℕ
element_start o w = field_count o (class_of o w)

abbrev pub element_count : Objects → ℕ → ℕ
element_count o w = size o (object_number w) - element_start o w

-- 60 to 62 take an object of form 1 or 2 with at most 16,383 elements.
abbrev pub has_elements : ℕ → Bool
has_elements form = eqb form indexed_form || eqb form bytes_form

unfoldable pub is_indexable : Objects → ℕ → Bool
is_indexable o w = not (is_integer w) && (has_elements (form o (class_of o w)) && leb (element_count o w) most_elements)

abbrev pub holds_bytes : Objects → ℕ → Bool
holds_bytes o w = eqb (form o (class_of o w)) bytes_form

-- Elements are counted from 1: a right index of so many, and the place in the body, from 0, that it stands for
unfoldable pub is_index : ℕ → ℕ → Bool
is_index count x = is_natural largest_integer x && (leb 1 (x / 2) && leb (x / 2) count)

abbrev pub place_of_index : Objects → ℕ → ℕ → ℕ
place_of_index o w x = element_start o w + (x / 2 - 1)

-- 60 at:
unfoldable pub at : Objects → ℕ → ℕ → Outcome
at o w x =
    when is_indexable o w && is_index (element_count o w) x
    then
    answers (when holds_bytes o w then 2 * object_byte o (object_number w) (place_of_index o w x) + 1 else body_word o (object_number w) (place_of_index o w x)) o
    else fails

-- 61 at:put: answers what it stored; a byte is 0 to 255.
unfoldable pub at_put : Objects → ℕ → ℕ → ℕ → Outcome
at_put o w x v =
    when is_indexable o w && is_index (element_count o w) x
    then
    (when holds_bytes o w
    then (when is_natural 255 v then answers v (store_byte o (object_number w) (place_of_index o w x) (v / 2)) else fails)
    else answers v (store_word o (object_number w) (place_of_index o w x) v))
    else fails

-- 62 size
unfoldable pub size_answer : Objects → ℕ → Outcome
size_answer o w = when is_indexable o w then answers (2 * element_count o w + 1) o else fails

-- One more object, with this body
unfoldable pub appended : Objects → ℕ → ℕ → ℕ → List ℕ → Objects
appended o class kind size body =
    record { n = o.n + 1; b = o.b + length body; contents = o.contents ++ (class ∷ kind ∷ o.b ∷ size ∷ []); bodies = o.bodies ++ body }

-- N is below 2,047, B does not pass 24,000, and contents and bodies have the words.
unfoldable pub has_room : Room → Objects → ℕ → Bool
has_room room o count =
    ltb o.n most_objects && (leb (o.b + count) most_body_words
    && (leb (entry_words * (o.n + 1)) room.contents && leb (o.b + count) room.bodies))

-- 02, M-104: the array of a send's arguments and its message, in this order; where there is room for both. The message is the last object then.
unfoldable pub array_made : Objects → List ℕ → Objects
array_made o arguments = appended o array_class fields_kind (length arguments) arguments

unfoldable pub message_made : Objects → ℕ → List ℕ → Objects
message_made o selector arguments = appended (array_made o arguments) message_class fields_kind message_fields (selector ∷ pointer (o.n + 1) ∷ [])

abbrev pub message_word : Objects → ℕ
message_word o = pointer (o.n + 2)

unfoldable pub has_message_room : Room → Objects → ℕ → Bool
has_message_room room o count =
    leb (o.n + 2) most_objects && (leb (o.b + (count + message_fields)) most_body_words
    && (leb (entry_words * (o.n + 2)) room.contents && leb (o.b + (count + message_fields)) room.bodies))

unfoldable pub make : Room → Objects → ℕ → ℕ → ℕ → ℕ → ℕ → Outcome
make room o class kind size count fill =
    when has_room room o count then answers (pointer (o.n + 1)) (appended o class kind size (replicate count fill)) else fails

-- 70 new, of a class of form 0: F fields, all nil
unfoldable pub new : Room → Objects → ℕ → Outcome
new room o c =
    when is_kind o class_kind c && eqb (form o c) fixed_form
    then make room o c fields_kind (field_count o c) (field_count o c) nil_word
    else fails

-- 71 new:, of form 1 with the argument's number of words after F, all nil, or of form 2 with that many bytes, all zero
unfoldable pub new_with : Room → Objects → ℕ → ℕ → Outcome
new_with room o c x =
    when is_kind o class_kind c && is_natural largest_integer x
    then
    (when eqb (form o c) indexed_form
    then make room o c fields_kind (field_count o c + x / 2) (field_count o c + x / 2) nil_word
    else (when eqb (form o c) bytes_form then make room o c bytes_kind (x / 2) ((x / 2 + 1) / 2) 0 else fails))
    else fails

abbrev pub computed : Objects → Option ℕ → Outcome
computed o (Some w) = answers w o
computed o None = fails

-- Primitive k on a receiver w and two arguments, those that it takes; `e` is the edition, which has all of them today
unfoldable pub perform : ℕ → Room → Objects → ℕ → ℕ → ℕ → ℕ → Outcome
perform e room o k w x y =
    when leb 1 k && leb k 17 then computed o (arithmetic k w x) else
    when eqb k 60 then at o w x else
    when eqb k 61 then at_put o w x y else
    when eqb k 62 then size_answer o w else
    when eqb k 70 then new room o w else
    when eqb k 71 then new_with room o w x else
    when eqb k 110 then answers (boolean_word (eqb w x)) o else
    when eqb k 111 then answers (class_of o w) o else
    fails

-- How many arguments primitive k takes; with another count it fails.
unfoldable pub primitive_count : ℕ → ℕ
primitive_count k = when eqb k 61 then 2 else when eqb k 62 || (eqb k 70 || eqb k 111) then 0 else 1

unfoldable pub primitive : ℕ → Room → Objects → ℕ → ℕ → ℕ → List ℕ → Outcome
primitive e room o k count w arguments =
    when eqb count (primitive_count k) then perform e room o k w (get_or arguments 0 0) (get_or arguments 1 0) else fails
