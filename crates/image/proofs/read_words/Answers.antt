use mathlib.Core.Path.{sym, ◌∙◌}
use native.Mathlib.Omega.{arith}
use lib.ListN.{length}
use lib.Seq.{ext_get_or}
use Rattle.model.specs.Objects.{part}
use Rattle.model.specs.Image.{words_of}
use Rattle.model.proofs.Parts.{length_part, part_at}
use Rattle.image.proofs.Words.{length_words}
use Rattle.image.proofs.read_words.Goals as goal

pub returns : goal.returns
returns c =
    let words = words_of c.args.image.now in
    let count = length c.args.words.now in
    let l = length_words c.args.image.now in
    let long = length_part words c.args.from count (omega arith) in
    ext_get_or 0 c.loop-i.words (part words c.args.from count) (omega arith)
    (λ k h. c.loop-i.invariant.1 k (omega arith) ∙ sym (part_at words c.args.from count k (omega arith)))
