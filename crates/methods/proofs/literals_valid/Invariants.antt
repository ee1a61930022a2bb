use Rattle.model.specs.Word.{is_valid}
use Rattle.model.specs.Objects.{objects_at}
use Rattle.model.specs.Method.{literal}
use Rattle.readers.proofs.Loops.{Before}
use Rattle.methods.proofs.literals_valid.Given as goal

abbrev pub invariant-loop-i : goal.invariant-loop-i
invariant-loop-i l = Before (λ j. is_valid l.memory.n (literal (objects_at l.memory.n l.memory.b l.memory.contents.now l.memory.bodies.now) l.m j)) l.i
