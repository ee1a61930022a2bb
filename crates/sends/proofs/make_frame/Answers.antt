use Prim.Native.Nat.{ℕ}
use mathlib.Core.Path.{ap, ap₂, ◌∙◌}
use mathlib.Core.List.{List}
use native.Mathlib.Omega.{arith}
use lib.ListN.{take, replicate}
use lib.Seq.{sets}
use Rattle.frames.specs.Words.{new_words}
use Rattle.words.proofs.Runs.{copied_stands}
use Rattle.sends.proofs.Placing.{lent_sets}
use Rattle.sends.proofs.make_frame.Goals as goal

pub returns : goal.returns
returns c =
    let args = c.args in
    let none = replicate {A = ℕ} 32 0 in
    lent_sets (new_words args.top.0 args.method.0 args.receiver args.temporaries (take args.count c.copy.new.words))
    c.move_to.new.stack args.base
    (let f = c.requires.fits in let l = c.move_to.auto.stack in omega arith) c.write_frame.ensures
    ∙ ap₂ (λ (xs ws : List ℕ). sets xs args.base (new_words args.top.0 args.method.0 args.receiver args.temporaries ws))
    c.move_to.ensures
    (ap (take args.count) c.copy.ensures ∙ copied_stands none args.stack.now args.from args.count (omega arith) (omega arith))
