-- The line that step80 prints, in byte codes (01, "Worked by hand").
use Rattle.std.specs.Prelude.{ℕ, zero, suc, ◌+◌, ◌/◌, ◌%◌, List, [], ◌∷◌, ◌++◌, ltb}
use Rattle.bytecode.specs.Test.{when◌then◌else◌}
use Rattle.plain.specs.Program.{Line, line, refusal, no_line}

-- Decimal digits, the highest first, with no zero in front, as far as the fuel goes.
unfoldable pub digits : ℕ → ℕ → List ℕ
digits zero n = []
digits (suc fuel) n = let rest = digits fuel (n / 10) in when ltb n 10 then (48 + n) ∷ [] else rest ++ ((48 + n % 10) ∷ [])

-- All digits of n: it has no more than n + 1 of them.
unfoldable pub decimal : ℕ → List ℕ
decimal n = digits (suc n) n

-- "phase ", " count ", " value ", "refused "
abbrev pub phase_text : List ℕ
phase_text = 112 ∷ 104 ∷ 97 ∷ 115 ∷ 101 ∷ 32 ∷ []

abbrev pub count_text : List ℕ
count_text = 32 ∷ 99 ∷ 111 ∷ 117 ∷ 110 ∷ 116 ∷ 32 ∷ []

abbrev pub value_text : List ℕ
value_text = 32 ∷ 118 ∷ 97 ∷ 108 ∷ 117 ∷ 101 ∷ 32 ∷ []

abbrev pub refused_text : List ℕ
refused_text = 114 ∷ 101 ∷ 102 ∷ 117 ∷ 115 ∷ 101 ∷ 100 ∷ 32 ∷ []

abbrev pub newline : List ℕ
newline = 10 ∷ []

unfoldable pub line_bytes : Line → List ℕ
line_bytes (line phase count value) =
    phase_text ++ (decimal phase ++ (count_text ++ (decimal count ++ (value_text ++ (decimal value ++ newline)))))
line_bytes (refusal number) = refused_text ++ (decimal number ++ newline)
line_bytes no_line = []
