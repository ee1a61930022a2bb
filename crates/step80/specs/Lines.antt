-- The line of what a run left, or of a refusal.
use Rattle.std.specs.Prelude.{Result, Ok, Err}
use Rattle.model.specs.declared.numbers.Refusal.{Refusal}
use Rattle.model.specs.Numbers.{number_of}
use Rattle.plain.specs.Program.{Line, line, refusal}
use Rattle.machine.specs.declared.Ran.{Ran}

abbrev pub line_by : Result Ran Refusal → Line
line_by (Ok x) = line x.registers.phase x.count x.registers.value
line_by (Err k) = refusal (number_of k)
