use Rattle.code.proofs.LinkFine.{special_word, special_same, special_class, special_sent}
use mathlib.Core.Path.{◌∙◌}
use Rattle.code.proofs.special_fine.Goals.{then-k-eq22-via-then-k-eq22, then-k-eq22-via-else-k-eq22+then-k-eq23}
use Rattle.code.proofs.special_fine.Goals as goal

pub returns-then-k-eq22 : goal.returns-then-k-eq22
returns-then-k-eq22 c =
    elim c.then-k-eq22.branch [
      | then-k-eq22-via-then-k-eq22 w ↦ special_same _ _ _ w.if-k-eq22.true
      | then-k-eq22-via-else-k-eq22+then-k-eq23 w ↦ special_class _ _ _ w.if-k-eq23.true
    ]

pub word_of-s-requires : goal.word_of-s-requires
word_of-s-requires c = let p = c.requires in special_word p.0 _ p.1

pub returns : goal.returns
returns c = c.send_fine.ensures ∙ special_sent _ _ _ c.if-k-eq22.false c.if-k-eq23.false
    c.word_of-s.ensures c.special_count.ensures
