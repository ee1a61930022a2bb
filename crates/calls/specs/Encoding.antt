-- A list of calls in words. One call stands after another, told apart by its first word:
--   0  begin: receiver, selector, count, then `count` words, the arguments
--   1  run: the high word and the low word of n
--   2  drop
--   3  forget
-- The list ends where the words end, or at the first call that is not whole or has another first word.
-- An answer is seven words: number (0 or the refusal), phase, count, value, reach, and the high and the low word of the dictionaries.
use Rattle.std.specs.Prelude.{ℕ, zero, suc, ◌+◌, ◌-◌, ◌*◌, ◌/◌, ◌%◌, List, [], ◌∷◌, ◌++◌, leb, ltb, eqb, length, get_or}
use Rattle.bytecode.specs.Test.{when◌then◌else◌}
use Rattle.model.specs.Objects.{part}
use Rattle.plain.specs.Calls.{Call, begin_call, run_call, drop_call, forget_call, Answer, done, refused_by, result, wrote}

-- The number of words of the call at position i; 0 where none stands there whole
unfoldable pub size_at : List ℕ → ℕ → ℕ
size_at words i =
    when leb (length words) i then 0 else
    when eqb (get_or words i 0) 0
    then (when ltb (length words - i) 4 then 0 else when ltb (length words - i) (4 + get_or words (i + 3) 0) then 0 else (4 + get_or words (i + 3) 0)) else
    when eqb (get_or words i 0) 1 then (when ltb (length words - i) 3 then 0 else 3) else
    when eqb (get_or words i 0) 2 then 1 else
    when eqb (get_or words i 0) 3 then 1 else 0

-- The n of the run at position i, and the begin there
unfoldable pub run_length : List ℕ → ℕ → ℕ
run_length words i = 65536 * get_or words (i + 1) 0 + get_or words (i + 2) 0

unfoldable pub begin_at : List ℕ → ℕ → Call
begin_at words i = begin_call (get_or words (i + 1) 0) (get_or words (i + 2) 0) (part words (i + 4) (get_or words (i + 3) 0))

-- The call at position i, where one stands whole
unfoldable pub call_at : List ℕ → ℕ → Call
call_at words i =
    when eqb (get_or words i 0) 0 then begin_at words i else
    when eqb (get_or words i 0) 1 then run_call (run_length words i) else
    when eqb (get_or words i 0) 2 then drop_call else forget_call

-- A call of n words and what follows it; nothing where n is 0
abbrev pub unless_none : ℕ → Call → (ℕ → List Call) → List Call
unless_none zero c rest = []
unless_none (suc n) c rest = c ∷ rest (suc n)

-- The calls from position i on, at most `fuel` of them
unfoldable pub calls_from : ℕ → ℕ → List ℕ → List Call
calls_from zero i words = []
calls_from (suc fuel) i words = unless_none (size_at words i) (call_at words i) (λ size. calls_from fuel (i + size) words)

-- All of them: a call has at least one word, so there are no more calls than words.
unfoldable pub calls_of : List ℕ → List Call
calls_of words = calls_from (length words) 0 words

-- How many words an answer has
abbrev pub answer_size : ℕ
answer_size = 7

-- A number of 64 bits in two words of 32
abbrev pub high_word : ℕ → ℕ
high_word n = n / 4294967296

abbrev pub low_word : ℕ → ℕ
low_word n = n % 4294967296

-- The words of an answer. No call of a list answers `wrote`, which is save's.
unfoldable pub answer_words : Answer → List ℕ
answer_words done = 0 ∷ 0 ∷ 0 ∷ 0 ∷ 0 ∷ 0 ∷ 0 ∷ []
answer_words (refused_by k) = k ∷ 0 ∷ 0 ∷ 0 ∷ 0 ∷ 0 ∷ 0 ∷ []
answer_words (result phase count value reach dictionaries) = 0 ∷ phase ∷ count ∷ value ∷ reach ∷ high_word dictionaries ∷ low_word dictionaries ∷ []
answer_words (wrote k) = 0 ∷ 0 ∷ 0 ∷ 0 ∷ 0 ∷ 0 ∷ 0 ∷ []

unfoldable pub all_words_of : List Answer → List ℕ
all_words_of [] = []
all_words_of (a ∷ rest) = answer_words a ++ all_words_of rest
