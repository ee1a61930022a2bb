-- Methods: header, home, literals, code (01, "Image", last paragraph). A method is given by its word.
use Rattle.std.specs.Prelude.{ℕ, ◌+◌, ◌-◌, ◌*◌, ◌/◌, ◌%◌, Bool, ◌||◌, List, leb, eqb}
use Rattle.bytecode.specs.Test.{when◌then◌else◌}
use Rattle.model.specs.Limits.{last_count_flag, primitive_flag, frame_header_words, small_frame_words, large_frame_words}
use Rattle.model.specs.Word.{object_number}
use Rattle.model.specs.Objects.{Objects, body_word, body_words, start, size, part}

-- The body: header, home class, literals
abbrev pub header : Objects → ℕ → ℕ
header o m = body_word o (object_number m) 0

abbrev pub home : Objects → ℕ → ℕ
home o m = body_word o (object_number m) 1

abbrev pub literal : Objects → ℕ → ℕ → ℕ
literal o m i = body_word o (object_number m) (2 + i)

-- The header's bits from the high end: flag 3, T 5, large 1, L 6, tag 1
abbrev pub flag : Objects → ℕ → ℕ
flag o m = header o m / 8192 % 8

abbrev pub temporary_count : Objects → ℕ → ℕ
temporary_count o m = header o m / 256 % 32

abbrev pub is_large : Objects → ℕ → Bool
is_large o m = eqb (header o m / 128 % 2) 1

abbrev pub literal_count : Objects → ℕ → ℕ
literal_count o m = header o m / 2 % 64

-- The code: its words, which are those behind the literals, and its size in bytes
unfoldable pub code_words : Objects → ℕ → List ℕ
code_words o m =
    part o.bodies (start o (object_number m) + (2 + literal_count o m)) (body_words o (object_number m) - (2 + literal_count o m))

unfoldable pub code_size : Objects → ℕ → ℕ
code_size o m = size o (object_number m) - (4 + 2 * literal_count o m)

-- The words of a frame for temporaries and operands, and all words of a frame
unfoldable pub frame_words : Objects → ℕ → ℕ
frame_words o m = when is_large o m then large_frame_words else small_frame_words

abbrev pub frame_size : Objects → ℕ → ℕ
frame_size o m = frame_header_words + frame_words o m

-- The extension of flag 7, the next to last literal, from the high end: 2 zero bits, arguments 5, primitive 8, tag 1
abbrev pub extension : Objects → ℕ → ℕ
extension o m = literal o m (literal_count o m - 2)

abbrev pub primitive_number : Objects → ℕ → ℕ
primitive_number o m = extension o m / 2 % 256

-- How many arguments a method takes: the flag, or the extension's number, or none
unfoldable pub argument_count : Objects → ℕ → ℕ
argument_count o m =
    when leb (flag o m) last_count_flag then flag o m else
    when eqb (flag o m) primitive_flag then extension o m / 512 % 32 else
    0

-- A method whose code can run
abbrev pub runs_code : Objects → ℕ → Bool
runs_code o m = leb (flag o m) last_count_flag || eqb (flag o m) primitive_flag
