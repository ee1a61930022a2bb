-- The counts, as they are defined.
use Prim.Native.Nat.{◌-◌}
use native.Mathlib.Omega.{arith}
use Rattle.steps.proofs.SpecialLaws.{special_counted, special_fits}
use Rattle.steps.proofs.special_count.Goals as goal

pub overflow_cast-result : goal.overflow_cast-result
overflow_cast-result c = let k = special_fits (c.args.k - 16) (omega arith) in omega arith

pub returns : goal.returns
returns c = special_counted c.args.k c.requires.0
