-- The objects in place are the image's, so the verdict on them is that on the image.
use Rattle.code.proofs.PassLaws.{zeros_at}
use Rattle.store.proofs.Refusals.{number_some}
use Rattle.store.proofs.Settled.{settled_yes, settled_no}
use borrow.Author.Rules.{rules}
use Rattle.store.proofs.settle.Goals as goal

pub judge-requires : goal.judge-requires
judge-requires c = (search rules, search rules, zeros_at 48000)

pub returns-in-Err : goal.returns-in-Err
returns-in-Err c =
    settled_no c.requires c.place.ensures.0 c.place.ensures.1 _ _ c.in-Err.ensures.answer (number_some _) c.zero.ensures.0 c.zero.ensures.1

pub returns : goal.returns
returns c =
    settled_yes c.requires c.place.ensures.0 c.place.ensures.1 _ _ c.in_default.ensures.answer
