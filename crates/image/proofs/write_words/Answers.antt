use mathlib.Core.Path.{refl, ◌∙◌}
use native.Mathlib.Omega.{arith}
use Rattle.image.proofs.Words.{written_more}
use Rattle.model.specs.Image.{bytes_of}
use Rattle.image.proofs.write_words.Goals as goal

pub loop-i-init : goal.loop-i-init
unfolding bytes_of
loop-i-init c = (refl, refl)

pub loop-i-preserved : goal.loop-i-preserved
loop-i-preserved c =
    let args = c.args in (
      written_more args.output.now args.at c.loop-i.i args.words.now (omega arith) c.loop-i.invariant.0 c.write_word.ensures,
      c.write_word.auto.output ∙ c.loop-i.invariant.1,
    )
