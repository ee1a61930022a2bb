-- A class has four words.
use native.Mathlib.Omega.{arith}
use Rattle.readers.proofs.InsideLaws.{class_inside}
use Rattle.objects.proofs.Bodies.{holds_laid}
use Rattle.objects.proofs.dictionary.Goals as goal

pub word_of-requires : goal.word_of-requires
word_of-requires c = let p = c.requires in class_inside (holds_laid p) p.kinds (omega arith)
