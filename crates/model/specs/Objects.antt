-- Objects: the table of contents and the bodies, read by object number (01, "Image").
-- A read outside the two lists gives 0; the image rules see to it that none is made.
use Rattle.std.specs.Prelude.{ℕ, ◌+◌, ◌-◌, ◌*◌, ◌/◌, Bool, ◌&&◌, ◌||◌, List, [], ◌++◌, eqb, length, get_or, take, drop}
use Rattle.bytecode.specs.Test.{when◌then◌else◌}
use Rattle.bytecode.specs.Constant.{nil_word}
use Rattle.model.specs.Limits.{entry_words, bytes_kind, method_kind}
use Rattle.model.specs.Word.{is_integer, is_pointer, object_number, integer_class}

-- n objects and b body words: `contents` has 4n words, `bodies` b.
pub record Objects : Type 0 where
  pub n : ℕ
  pub b : ℕ
  pub contents : List ℕ
  pub bodies : List ℕ

-- The objects in buffers that may be longer
abbrev pub objects_at : ℕ → ℕ → List ℕ → List ℕ → Objects
objects_at n b contents bodies = record { n = n; b = b; contents = take (entry_words * n) contents; bodies = take b bodies }

-- The entries alone, where no body is read
abbrev pub entries_at : ℕ → List ℕ → Objects
entries_at n contents = objects_at n 0 contents []

-- Words at the front of a buffer; the rest is as it was.
abbrev pub at_front : List ℕ → List ℕ → List ℕ
at_front words buffer = words ++ drop (length words) buffer

-- Word i of the entry of object k: class, kind, start, size. Objects are numbered from 1.
abbrev pub entry_word : Objects → ℕ → ℕ → ℕ
entry_word o k i = get_or o.contents (entry_words * (k - 1) + i) 0

abbrev pub class_word : Objects → ℕ → ℕ
class_word o k = entry_word o k 0

abbrev pub kind : Objects → ℕ → ℕ
kind o k = entry_word o k 1

abbrev pub start : Objects → ℕ → ℕ
start o k = entry_word o k 2

abbrev pub size : Objects → ℕ → ℕ
size o k = entry_word o k 3

-- The sizes of kinds 1 and 4 are in bytes, the others in words.
abbrev pub sized_in_bytes : ℕ → Bool
sized_in_bytes k = eqb k bytes_kind || eqb k method_kind

unfoldable pub body_words : Objects → ℕ → ℕ
body_words o k = when sized_in_bytes (kind o k) then (size o k + 1) / 2 else size o k

abbrev pub body_end : Objects → ℕ → ℕ
body_end o k = start o k + body_words o k

-- Word i (from 0) of the body of object k, and the whole body
abbrev pub body_word : Objects → ℕ → ℕ → ℕ
body_word o k i = get_or o.bodies (start o k + i) 0

abbrev pub part : List ℕ → ℕ → ℕ → List ℕ
part ws from count = take count (drop from ws)

unfoldable pub body_of : Objects → ℕ → List ℕ
body_of o k = part o.bodies (start o k) (body_words o k)

-- The word names an object of this kind.
unfoldable pub is_kind : Objects → ℕ → ℕ → Bool
is_kind o k w = is_pointer o.n w && eqb (kind o (object_number w)) k

-- "nil or a class", "nil or kind 1"
abbrev pub is_nil_or : Objects → ℕ → ℕ → Bool
is_nil_or o k w = eqb w nil_word || is_kind o k w

-- The class of a word: object 4 for an integer
unfoldable pub class_of : Objects → ℕ → ℕ
class_of o w = when is_integer w then integer_class else class_word o (object_number w)

-- The four words of a class body; the class is given by its word.
abbrev pub superclass_word : Objects → ℕ → ℕ
superclass_word o c = body_word o (object_number c) 0

abbrev pub dictionary_word : Objects → ℕ → ℕ
dictionary_word o c = body_word o (object_number c) 1

abbrev pub fields_word : Objects → ℕ → ℕ
fields_word o c = body_word o (object_number c) 2

abbrev pub form_word : Objects → ℕ → ℕ
form_word o c = body_word o (object_number c) 3

-- F and the form as numbers: their words are integers from 0
abbrev pub field_count : Objects → ℕ → ℕ
field_count o c = fields_word o c / 2

abbrev pub form : Objects → ℕ → ℕ
form o c = form_word o c / 2

-- A dictionary, given by its word: how many pairs it has, and selector and method of pair i (from 0)
abbrev pub pair_count : Objects → ℕ → ℕ
pair_count o d = size o (object_number d) / 2

abbrev pub pair_selector : Objects → ℕ → ℕ → ℕ
pair_selector o d i = body_word o (object_number d) (2 * i)

abbrev pub pair_method : Objects → ℕ → ℕ → ℕ
pair_method o d i = body_word o (object_number d) (2 * i + 1)
