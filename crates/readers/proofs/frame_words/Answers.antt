-- The two sizes of a frame.
use Rattle.bytecode.proofs.Choice.{ranges}
use Rattle.readers.specs.Header.{frame_of}
use Rattle.readers.proofs.frame_words.Goals as goal

pub returns-then-header-eq1 : goal.returns-then-header-eq1
unfolding frame_of
returns-then-header-eq1 c = search ranges

pub returns-else-header-eq1 : goal.returns-else-header-eq1
unfolding frame_of
returns-else-header-eq1 c = search ranges
