-- `is_kind` is `is_kind`, whatever the bodies are.
use Rattle.std.proofs.Common.{rules, tests}
use mathlib.Core.Path.{sym, ◌∙◌}
use Rattle.model.specs.Objects.{is_kind}
use Rattle.readers.proofs.Names.{points}
use Rattle.readers.proofs.Memory.is_kind.Goals as goal

pub kind-requires : goal.kind-requires
kind-requires c =
    let p = points _ _ (sym c.is_pointer.ensures ∙ c.if-is_pointer.true) in
    search rules

pub returns-then-is_pointer : goal.returns-then-is_pointer
unfolding is_kind
returns-then-is_pointer c = λ b bodies. simp (sym c.is_pointer.ensures ∙ c.if-is_pointer.true, c.kind.ensures)

pub returns-else-is_pointer : goal.returns-else-is_pointer
unfolding is_kind
returns-else-is_pointer c = λ b bodies. search (tests, rules)
