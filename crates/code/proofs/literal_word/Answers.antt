use Prim.Native.Nat.{ℕ, ◌+◌}
use mathlib.Core.Path.{ap, ◌∙◌}
use lib.ListN.{get_or, take}
use Rattle.code.proofs.literal_word.Goals as goal

pub returns : goal.returns
returns c =
    let args = c.args in
    c.word_at.ensures ∙ ap (λ (x : ℕ). get_or (take args.memory.now.b args.memory.now.bodies.now) (x + (2 + args.i)) 0) c.start.ensures
