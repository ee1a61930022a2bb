-- `far` is `jump_of` from 160 on.
use Prim.Native.Nat.{◌≤◌}
use native.Mathlib.Omega.{arith}
use Rattle.bytecode.specs.Code.{jump_of}
use Rattle.bytecode.proofs.Choice.{ranges}
use Rattle.bytecode.proofs.far.Goals as goal

pub returns-then-b-lt168 : goal.returns-then-b-lt168
unfolding jump_of
returns-then-b-lt168 c = let l₁ : 152 ≤ c.before.args.b = omega arith in search ranges

pub returns-then-b-lt172 : goal.returns-then-b-lt172
unfolding jump_of
returns-then-b-lt172 c = let l₁ : 152 ≤ c.before.before.args.b = omega arith in search ranges

pub returns : goal.returns
unfolding jump_of
returns c = let l₁ : 152 ≤ c.before.before.args.b = omega arith in search ranges
