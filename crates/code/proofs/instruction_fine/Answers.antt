use Rattle.flow.specs.Linked.{linked}
use Rattle.code.proofs.LinkFine.{told, told_small, told_place, told_send, told_nothing}
use Rattle.code.proofs.instruction_fine.Goals as goal

pub special_fine-requires : goal.special_fine-requires
special_fine-requires c = let p = c.requires in (p.0, told_small c.in-SpecialSend.is p.1)

pub returns-in_default : goal.returns-in_default
returns-in_default c =
    let n = c.in_default in
    told_nothing _ _ c.args.i n.not-Push n.not-Store n.not-PopStore n.not-Send n.not-SuperSend n.not-SpecialSend

pub returns-in-Send : goal.returns-in-Send
returns-in-Send c = told_send _ _ c.in-Send.is c.selector_fine.ensures

pub returns-in-Push : goal.returns-in-Push
returns-in-Push c = told_place _ _ c.in-Push.is c.place_fine.ensures

pub returns-in-SpecialSend : goal.returns-in-SpecialSend
unfolding linked
returns-in-SpecialSend c = told _ _ c.in-SpecialSend.is c.special_fine.ensures
