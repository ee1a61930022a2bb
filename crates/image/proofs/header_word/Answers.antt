-- `words_of` has 0 past its end.
use mathlib.Core.Path.{sym}
use Rattle.image.proofs.Words.{words_outside}
use Rattle.image.proofs.header_word.Goals as goal

pub returns-else-i-image : goal.returns-else-i-image
returns-else-i-image c = sym (words_outside _ _ c.if-i-image.false)
