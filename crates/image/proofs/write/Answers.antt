-- Header, contents and bodies, one behind the other.
use Rattle.image.proofs.RoundTrip.{written_image}
use Rattle.image.proofs.write.Goals as goal

pub returns : goal.returns
returns c = (
  c.length_of.ensures,
  written_image _ _ _ _ c.requires.0 c.requires.1 c.requires.2 c.write_header.ensures
      c.write_words.ensures c.write_words-2.ensures,
)
