-- Five words one after the other.
use Rattle.image.proofs.Words.{written_five}
use Rattle.image.proofs.write_header.Goals as goal

pub returns : goal.returns
returns c =
    written_five _ _ _ _ _ _ c.write_word.ensures c.write_word-2.ensures
    c.write_word-3.ensures c.write_word-4.ensures c.write_word-5.ensures
