-- Zeros at both fronts.
use Prim.Native.Nat.{◌*◌}
use mathlib.Core.Path.{◌∙◌}
use Rattle.model.specs.Limits.{entry_words}
use Rattle.words.proofs.Runs.{filled_front}
use Rattle.image.proofs.zero.Goals as goal

pub returns : goal.returns
returns c =
    let args = c.args in (
      c.fill.ensures ∙ filled_front args.contents.now (entry_words * args.n) 0 c.requires.0,
      c.fill-2.ensures ∙ filled_front args.bodies.now args.b 0 c.requires.1,
    )
