-- Each field is a word of the image.
use Rattle.model.specs.Image.{header_of, image_header}
use Rattle.image.proofs.RoundTrip.{header_eq}
use Rattle.image.proofs.header_of.Goals as goal

pub returns : goal.returns
unfolding image_header header_of
returns c = header_eq c.header_word.ensures c.header_word-2.ensures c.header_word-3.ensures c.header_word-4.ensures c.header_word-5.ensures
