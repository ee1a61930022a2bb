-- The code is where the frame has it.
use Rattle.frames.proofs.ActiveLaws.{lends}
use Rattle.steps.proofs.ActiveLaws.{whole, doing}
use Rattle.steps.proofs.decoded.Goals as goal

pub instruction_at-requires : goal.instruction_at-requires
instruction_at-requires c =
    ((lends c.requires).ordered, (lends c.requires).inside, (whole c.requires).0, (whole c.requires).1)

pub returns : goal.returns
returns c =
    doing c.requires _ _ c.instruction_at.ensures.0 c.instruction_at.ensures.1
