-- The program step80 (01, "Worked by hand").
use Rattle.std.specs.Prelude.{ℕ, List, []}
use Rattle.model.specs.Image.{Room, Verdict, accepted, refused, load_verdict}
use Rattle.plain.specs.State.{Plain}
use Rattle.plain.specs.Calls.{loaded, Begun, begun, declined, begin, Ran, ran, stuck, steps}

-- A line: phase, count and value, or the number of a refusal
pub data Line : Type 0 where
  line : ℕ → ℕ → ℕ → Line
  refusal : ℕ → Line
  no_line : Line

abbrev pub line_of_run : Ran → Line
line_of_run (ran k s ts) = line s.registers.phase k s.registers.value
line_of_run stuck = no_line

-- 1,000 bytecodes in phase 1; a begin that answered at once is printed as a run of none
abbrev pub line_of_begun : Room → Begun → Line
line_of_begun room (begun s) = line_of_run (steps room 1000 s)
line_of_begun room (declined k) = refusal k

abbrev pub line_of_load : Room → Plain → Verdict → Line
line_of_load room s accepted = line_of_begun room (begin room s s.registers.start_receiver s.registers.start_selector [])
line_of_load room s (refused k) = refusal k

-- room for every image, and a stack of 1,024 words
abbrev pub step80_room : Room
step80_room = record { contents = 8188; bodies = 24000; stack = 1024; cache = 256 }

unfoldable pub step80 : List ℕ → Line
step80 bytes = line_of_load step80_room (loaded bytes) (load_verdict step80_room bytes)
