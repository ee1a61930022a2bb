-- `words_fine` is `rule8`, whatever the bodies are.
use mathlib.Core.Path.{sym, ◌∙◌}
use Rattle.model.specs.Objects.{objects_at}
use Rattle.begins.proofs.Beginnings.{arguments_left, no_start}
use Rattle.begins.proofs.words_fine.Goals as goal

pub returns-then-starts_fine : goal.returns-then-starts_fine
returns-then-starts_fine c =
    let a = c.args in
    λ b bodies. c.valid_words.ensures
    ∙ arguments_left (objects_at a.memory.now.n b a.memory.now.contents.now bodies) a.receiver a.selector a.arguments.now (sym (c.starts_fine.ensures b bodies) ∙ c.if-starts_fine.true)

pub returns-else-starts_fine : goal.returns-else-starts_fine
returns-else-starts_fine c =
    let a = c.args in
    λ b bodies. c.if-starts_fine.false
    ∙ no_start (objects_at a.memory.now.n b a.memory.now.contents.now bodies) a.receiver a.selector a.arguments.now (sym (c.starts_fine.ensures b bodies) ∙ c.if-starts_fine.false)
