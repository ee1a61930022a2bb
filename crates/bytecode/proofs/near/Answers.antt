-- `near` is `jump_of` below 160, whatever follows.
use Rattle.bytecode.specs.Code.{jump_of}
use Rattle.bytecode.proofs.Choice.{ranges}
use Rattle.bytecode.proofs.near.Goals as goal

pub returns-then-b-lt152 : goal.returns-then-b-lt152
unfolding jump_of
returns-then-b-lt152 c = λ x. search ranges

pub returns : goal.returns
unfolding jump_of
returns c = λ x. search ranges
