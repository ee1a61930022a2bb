-- Words, integers and pointers (01, "Words").
-- A word is a natural number below 65,536; the integer that it holds is a ℤ, whose range is a bound on its magnitude.
use Rattle.std.specs.Prelude.{ℕ, ◌+◌, ◌-◌, ◌*◌, ◌/◌, ◌%◌, Bool, true, false, ◌&&◌, ◌||◌, leb, ltb, eqb, ℤ, pos, negsuc}
use Rattle.std.specs.Int.Signed.{mag}
use Rattle.bytecode.specs.Test.{when◌then◌else◌}
use Rattle.bytecode.specs.Constant.{false_word, true_word}
use Rattle.model.specs.Limits.{largest_integer, integer_class_object, failure_selector_object, message_class_object, array_class_object}

-- An odd word is an integer.
abbrev pub is_integer : ℕ → Bool
is_integer w = eqb (w % 2) 1

-- Integers from −16,384 to 16,383 have a word: twice the integer and one more, modulo 65,536.
abbrev pub in_range : ℤ → Bool
in_range z = leb (mag z) largest_integer

unfoldable pub word_of : ℤ → ℕ
word_of (pos n) = 2 * n + 1
word_of (negsuc n) = 65535 - 2 * n

unfoldable pub value_of : ℕ → ℤ
value_of w = when ltb w 32768 then pos (w / 2) else negsuc ((65535 - w) / 2)

-- An integer word from 0 to a bound; as a number it is half the word.
abbrev pub is_natural : ℕ → ℕ → Bool
is_natural most w = is_integer w && leb (w / 2) most

-- An even word is a pointer, twice an object number.
abbrev pub pointer : ℕ → ℕ
pointer k = 2 * k

abbrev pub object_number : ℕ → ℕ
object_number w = w / 2

-- The word names one of the objects 1 to n.
unfoldable pub is_pointer : ℕ → ℕ → Bool
is_pointer n w = eqb (w % 2) 0 && (leb 1 (object_number w) && leb (object_number w) n)

-- A valid word, as 01 has it: odd, or the name of an object 1 to n.
unfoldable pub is_valid : ℕ → ℕ → Bool
is_valid n w = is_integer w || is_pointer n w

abbrev pub integer_class : ℕ
integer_class = pointer integer_class_object

abbrev pub failure_selector : ℕ
failure_selector = pointer failure_selector_object

abbrev pub message_class : ℕ
message_class = pointer message_class_object

abbrev pub array_class : ℕ
array_class = pointer array_class_object

abbrev pub boolean_word : Bool → ℕ
boolean_word true = true_word
boolean_word false = false_word
