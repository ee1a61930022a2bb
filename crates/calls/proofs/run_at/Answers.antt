use native.Mathlib.Omega.{arith}
use mathlib.Core.Path.{refl}
use Prim.Native.Nat.{◌+◌}
use Rattle.calls.specs.Encoding.{run_length}
use Rattle.calls.specs.Listing.{listed}
use Rattle.calls.proofs.run_at.Goals as goal

pub overflow_cast-high : goal.overflow_cast-high
overflow_cast-high c = omega (arith, c.type_inv.calls (c.args.i + 1))

pub overflow_cast-low : goal.overflow_cast-low
overflow_cast-low c = omega (arith, c.type_inv.calls (c.args.i + 2))

pub overflow_mul-grant : goal.overflow_mul-grant
overflow_mul-grant c =
    let h = c.type_inv.calls (c.args.i + 1) in
    let l = c.type_inv.calls (c.args.i + 2) in
    omega arith

pub overflow_add-grant : goal.overflow_add-grant
overflow_add-grant c =
    let h = c.type_inv.calls (c.args.i + 1) in
    let l = c.type_inv.calls (c.args.i + 2) in
    omega arith

pub returns : goal.returns
unfolding listed run_length
returns c = (refl, tt)
