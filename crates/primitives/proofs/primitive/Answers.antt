-- Another count fails.
use mathlib.Core.Path.{sym, ◌∙◌}
use Rattle.primitives.proofs.Growing.{does_none, does_same}
use Rattle.primitives.proofs.Performing.{other_count, own_count}
use Rattle.primitives.proofs.primitive.Goals as goal

pub returns-then-count-primitive_count : goal.returns-then-count-primitive_count
returns-then-count-primitive_count c =
    does_none c.requires.0.right.1 c.failed.ensures
    (other_count _ _ _ _ _ _ _ _ (λ q. c.if-count-primitive_count.true (q ∙ sym c.primitive_count.ensures)))

pub returns : goal.returns
returns c =
    does_same (own_count _ _ _ _ _ _ _ _ (c.if-count-primitive_count.false ∙ c.primitive_count.ensures)) c.perform.ensures
