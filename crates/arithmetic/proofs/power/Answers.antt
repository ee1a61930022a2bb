-- `arithmetic::power` meets its contract.
use Prim.Native.Nat.{◌^◌}
use mathlib.Core.Path.{ap, ◌∙◌}
use native.Mathlib.Omega.{arith}
use mir.Syntax.{w32}
use mir.Val.{to_z}
use mir.ValLaws.{to_z_pos}
use Rattle.arithmetic.proofs.Shifts.{small_power, one_shifted}
use Rattle.arithmetic.proofs.power.Goals as goal

pub overflow_cast-result : goal.overflow_cast-result
overflow_cast-result c = let h = small_power c.args.n c.requires in rw (one_shifted c.args.n c.requires) (record { sfits = omega arith })

pub returns : goal.returns
returns c =
    let h = small_power c.args.n c.requires in
    ap (to_z w32) (one_shifted c.args.n c.requires) ∙ to_z_pos w32 (2 ^ c.args.n) (omega arith)
