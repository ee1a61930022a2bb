use native.Mathlib.Omega.{arith}
use lib.ListN.{length-set}
use mathlib.Core.Path.{◌∙◌}
use Rattle.bytecode.specs.Constant.{false_word}
use Rattle.messages.proofs.answer.Goals as goal

pub move_to-requires : goal.move_to-requires
move_to-requires c =
    (simp length-set (omega arith), c.requires.1, c.requires.2)

pub shape_of-stack : goal.shape_of-stack
shape_of-stack c =
    c.move_to.auto.stack ∙ length-set c.args.stack.now c.args.place false_word

pub returns : goal.returns
returns c =
    c.move_to.ensures
