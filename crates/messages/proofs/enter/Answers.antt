use mathlib.Core.Path.{ap, ◌∙◌}
use mathlib.Core.List.{List, [], ◌∷◌}
use Prim.Native.Nat.{ℕ}
use native.Mathlib.Omega.{arith}
use lib.Seq.{sets}
use Rattle.frames.specs.Words.{new_words}
use Rattle.sends.proofs.Placing.{lent_sets}
use Rattle.messages.proofs.enter.Goals as goal

pub returns : goal.returns
returns c =
    lent_sets (new_words c.args.top.0 c.args.method.0 c.args.receiver c.args.temporaries (c.args.message ∷ [])) c.move_to.new.stack c.args.base (let f = c.requires.fits in let l = c.move_to.auto.stack in omega arith) c.write_frame.ensures ∙ ap (λ (xs : List ℕ). sets xs c.args.base (new_words c.args.top.0 c.args.method.0 c.args.receiver c.args.temporaries (c.args.message ∷ []))) c.move_to.ensures
