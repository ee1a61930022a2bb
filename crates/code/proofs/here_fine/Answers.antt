use mathlib.Core.Path.{ap, ◌∙◌}
use Rattle.flow.specs.Linked.{linked}
use Rattle.code.proofs.LinkFine.{decoded_small}
use Rattle.code.proofs.here_fine.Goals as goal

pub instruction_fine-requires : goal.instruction_fine-requires
instruction_fine-requires c =
    (c.requires, decoded_small _ _ _ c.decode-i.ensures)

pub returns : goal.returns
returns c = c.instruction_fine.ensures ∙ ap (linked _ _) c.decode-i.ensures
