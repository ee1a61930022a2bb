use Rattle.objects.proofs.Buffers.{class_integer, class_object}
use Rattle.objects.proofs.Bodies.{valid_entry}
use Rattle.objects.proofs.class_of.Goals as goal

pub returns-then-w-eq1 : goal.returns-then-w-eq1
returns-then-w-eq1 c = λ b bodies. class_integer _ b _ bodies _ c.if-w-eq1.true

pub class_word-requires : goal.class_word-requires
class_word-requires c =
    let args = c.args in
    valid_entry args.memory.now.n args.memory.now.contents.now args.w c.requires.0 c.if-w-eq1.false c.requires.1

pub returns-else-w-eq1 : goal.returns-else-w-eq1
returns-else-w-eq1 c = λ b bodies. class_object _ b _ bodies c.args.w c.if-w-eq1.false c.class_word.ensures
