-- The word of the place, pushed.
use Rattle.steps.proofs.DoingLaws.{push_pushing, push_done}
use Rattle.steps.proofs.push.Goals as goal

pub push_word-requires : goal.push_word-requires
push_word-requires c = push_pushing c.requires

pub returns : goal.returns
returns c =
    push_done c.requires _ _ c.push_word.result c.read-w.ensures c.push_word.ensures
