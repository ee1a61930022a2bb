-- A word of the image, by its two bytes.
use mathlib.Core.Path.{sym, ◌∙◌}
use Rattle.image.proofs.Words.{words_inside}
use Rattle.image.proofs.word.Goals as goal

pub returns : goal.returns
returns c = c.from_be_bytes.ensures ∙ sym (words_inside _ _ c.requires)
