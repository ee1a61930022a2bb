-- `body_words` is `body_words`: half of an odd size is rounded up.
use mathlib.Core.Path.{sym, ap, ◌∙◌}
use Rattle.model.specs.Objects.{objects_at, sized_in_bytes}
use Rattle.readers.proofs.Bodies.{body_bytes, body_plain}
use Rattle.readers.proofs.Memory.body_words.Goals as goal

pub returns-then-in_bytes : goal.returns-then-in_bytes
returns-then-in_bytes c = λ b bodies. let a = c.args in c.div_ceil.ensures
    ∙ body_bytes (objects_at a.self.now.n b a.self.now.contents.now bodies) a.k _ c.size-size.ensures
    (ap sized_in_bytes (sym c.kind.ensures) ∙ sym c.in_bytes.ensures ∙ c.if-in_bytes.true)

pub returns-else-in_bytes : goal.returns-else-in_bytes
returns-else-in_bytes c = λ b bodies. let a = c.args in c.size-size.ensures
    ∙ sym (body_plain (objects_at a.self.now.n b a.self.now.contents.now bodies) a.k (ap sized_in_bytes (sym c.kind.ensures)
    ∙ sym c.in_bytes.ensures ∙ c.if-in_bytes.false))
