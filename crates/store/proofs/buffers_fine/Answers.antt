use Rattle.std.proofs.Common.{rules}
use Rattle.model.specs.Image.{buffers_fine}
use Rattle.store.proofs.buffers_fine.Goals as goal

pub returns-then-b-bodies : goal.returns-then-b-bodies
unfolding buffers_fine
returns-then-b-bodies c = search rules

pub returns-else-b-bodies : goal.returns-else-b-bodies
unfolding buffers_fine
returns-else-b-bodies c = search rules
