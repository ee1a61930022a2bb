-- The numbers of refusals begin at 1.
use mathlib.Core.Path.{◌≡◌}
use native.Mathlib.Omega.{arith}
use Rattle.model.specs.declared.numbers.Refusal.{Refusal}
use Rattle.model.specs.declared.numbers.Refusal.TheVariants as Refused
use Rattle.model.specs.Numbers.{number_of}

pub number_some : (k : Refusal) → number_of k ≡ 0 → ⊥
number_some Refused.Length e = omega arith
number_some Refused.Header e = omega arith
number_some Refused.Buffers e = omega arith
number_some Refused.Layout e = omega arith
number_some Refused.Words e = omega arith
number_some Refused.Classes e = omega arith
number_some Refused.Methods e = omega arith
number_some Refused.Start e = omega arith
number_some Refused.NoMethod e = omega arith
number_some Refused.ArgumentCount e = omega arith
number_some Refused.State e = omega arith
number_some Refused.Phase e = omega arith
number_some Refused.StackRoom e = omega arith
number_some Refused.Chain e = omega arith
