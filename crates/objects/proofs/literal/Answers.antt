-- A method has its header, its home and its literals.
use Prim.Native.Nat.{◌+◌}
use native.Mathlib.Omega.{arith}
use Rattle.objects.proofs.Bodies.{method_inside}
use Rattle.objects.proofs.literal.Goals as goal

pub word_of-requires : goal.word_of-requires
word_of-requires c = method_inside (2 + c.args.i) (omega arith) c.requires.0
