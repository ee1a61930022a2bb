use Prim.Native.Nat.{ℕ, ◌+◌}
use mathlib.Core.Path.{◌≡◌, ap}
use native.Mathlib.Omega.{arith}
use lib.ListN.{get_or}
use Rattle.frames.proofs.sender.Goals as goal

plus-zero : (x : ℕ) → x + 0 ≡ x
plus-zero x = omega arith

pub overflow_cast-result : goal.overflow_cast-result
overflow_cast-result c = let args = c.args in let p = c.requires.2 in let e = ap (λ (i : ℕ). get_or args.stack.now i 0) (plus-zero args.top.0) in omega arith

pub returns : goal.returns
returns c = ap (λ (i : ℕ). get_or c.args.stack.now i 0) (plus-zero c.args.top.0)
