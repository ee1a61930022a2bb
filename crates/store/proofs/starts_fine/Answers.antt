-- `starts_fine` is `rule8` of no arguments, whatever the bodies are.
use mathlib.Core.Path.{sym, ◌∙◌}
use Rattle.store.proofs.Verdicts.{receiver_no, by_selector}
use Rattle.store.proofs.starts_fine.Goals as goal

pub returns-then-is_valid : goal.returns-then-is_valid
returns-then-is_valid c = λ b bodies. c.is_kind.ensures b bodies ∙ sym (by_selector _ _ _ (sym c.is_valid.ensures ∙ c.if-is_valid.true))

pub returns-else-is_valid : goal.returns-else-is_valid
returns-else-is_valid c = λ b bodies. c.if-is_valid.false ∙ sym (receiver_no _ _ _ (sym c.is_valid.ensures ∙ c.if-is_valid.false))
