-- The words that bytecodes name (01, "Words", "Image" and "Code").
use Rattle.std.specs.Prelude.{ℕ, [], ◌∷◌, get_or}

-- the words of objects 1, 2 and 3
abbrev pub nil_word : ℕ
nil_word = 2

abbrev pub false_word : ℕ
false_word = 4

abbrev pub true_word : ℕ
true_word = 6

-- 01, "Code", 113–119: true, false, nil, and the integers −1, 0, 1, 2, counted from 1; 121–123 are the first three
abbrev pub constant_word : ℕ → ℕ
constant_word k = get_or (0 ∷ true_word ∷ false_word ∷ nil_word ∷ 65535 ∷ 1 ∷ 3 ∷ 5 ∷ []) k 0
