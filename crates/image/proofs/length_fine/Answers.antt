-- The two tests of `length_fine`.
use mathlib.Core.Path.{sym}
use borrow.Author.Tests.{le-leb, lt-leb}
use Rattle.model.specs.Image.{length_fine}
use Rattle.image.proofs.length_fine.Goals as goal

pub returns-then-image-ge-HEADER_BYTES : goal.returns-then-image-ge-HEADER_BYTES
unfolding length_fine
returns-then-image-ge-HEADER_BYTES c =
    simp (le-leb _ _ c.if-image-ge-HEADER_BYTES.true, c.length_of.ensures, sym c.header_of-header.ensures)

pub returns-else-image-ge-HEADER_BYTES : goal.returns-else-image-ge-HEADER_BYTES
unfolding length_fine
returns-else-image-ge-HEADER_BYTES c = simp (lt-leb _ _ c.if-image-ge-HEADER_BYTES.false)
