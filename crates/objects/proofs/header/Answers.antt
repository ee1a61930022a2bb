-- A method has its header, its home and its literals.
use native.Mathlib.Omega.{arith}
use Rattle.objects.proofs.Bodies.{method_inside}
use Rattle.objects.proofs.header.Goals as goal

pub word_of-requires : goal.word_of-requires
word_of-requires c = method_inside 0 (omega arith) c.requires
