-- What a method's header says, by its word. Of method m these are `flag`, `temporary_count` and so on (proofs/HeaderLaws).
use Rattle.std.specs.Prelude.{ℕ, ◌/◌, ◌%◌, Bool, ◌||◌, leb, eqb}
use Rattle.bytecode.specs.Test.{when◌then◌else◌}
use Rattle.model.specs.Limits.{last_count_flag, primitive_flag, small_frame_words, large_frame_words}

abbrev pub flag_of : ℕ → ℕ
flag_of header = header / 8192 % 8

abbrev pub temporaries_of : ℕ → ℕ
temporaries_of header = header / 256 % 32

abbrev pub literals_of : ℕ → ℕ
literals_of header = header / 2 % 64

unfoldable pub frame_of : ℕ → ℕ
frame_of header = when eqb (header / 128 % 2) 1 then large_frame_words else small_frame_words

abbrev pub runs_of : ℕ → Bool
runs_of header = leb (flag_of header) last_count_flag || eqb (flag_of header) primitive_flag
