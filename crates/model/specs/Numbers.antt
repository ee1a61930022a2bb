-- The numbers of refusals, and the phases of halts.
use Rattle.std.specs.Prelude.{ℕ}
use Rattle.model.specs.declared.numbers.Refusal.{Refusal}
use Rattle.model.specs.declared.numbers.Refusal.TheVariants as Refused
use Rattle.model.specs.declared.numbers.Halt.{Halt}
use Rattle.model.specs.declared.numbers.Halt.TheVariants as Halted

abbrev pub number_of : Refusal → ℕ
number_of Refused.Length = 1
number_of Refused.Header = 2
number_of Refused.Buffers = 3
number_of Refused.Layout = 4
number_of Refused.Words = 5
number_of Refused.Classes = 6
number_of Refused.Methods = 7
number_of Refused.Start = 8
number_of Refused.NoMethod = 9
number_of Refused.ArgumentCount = 10
number_of Refused.State = 11
number_of Refused.Phase = 12
number_of Refused.StackRoom = 13
number_of Refused.Chain = 14

abbrev pub phase_of : Halt → ℕ
phase_of Halted.NotUnderstood = 3
phase_of Halted.NoBoolean = 4
phase_of Halted.NoStackRoom = 5
