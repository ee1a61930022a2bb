-- `pop_store` is `short_of` from 96 on.
use Prim.Native.Nat.{◌≤◌}
use native.Mathlib.Omega.{arith}
use Rattle.bytecode.specs.Code.{short_of}
use Rattle.bytecode.proofs.Choice.{ranges}
use Rattle.bytecode.proofs.pop_store.Goals as goal

pub returns-then-b-lt104 : goal.returns-then-b-lt104
unfolding short_of
returns-then-b-lt104 c = let b = c.before.args.b in let l₁ : 16 ≤ b = omega arith in let l₂ : 32 ≤ b = omega arith in let l₃ : 64 ≤ b = omega arith in search ranges

pub returns : goal.returns
unfolding short_of
returns c = let b = c.before.args.b in let l₁ : 16 ≤ b = omega arith in let l₂ : 32 ≤ b = omega arith in let l₃ : 64 ≤ b = omega arith in search ranges
