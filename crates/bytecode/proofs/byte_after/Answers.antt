-- `byte_after` is `byte_at`: where no word is, both are 0.
use Prim.Native.Nat.{◌+◌, ◌/◌, ◌≤◌}
use native.Mathlib.Omega.{arith}
use lib.ListN.{length, get_or-eq_default}
use Rattle.bytecode.specs.Code.{byte_at}
use Rattle.bytecode.proofs.Choice.{if_same}
use Rattle.bytecode.proofs.byte_after.Goals as goal

pub returns-else-at-words : goal.returns-else-at-words
unfolding byte_at
returns-else-at-words c = let h : length c.before.args.words.now ≤ (c.before.args.at + c.before.args.k) / 2 = omega arith in simp (get_or-eq_default, if_same)
