use mathlib.Core.Bool.{not}
use mathlib.Core.Path.{refl, sym, ap, ◌∙◌}
use Rattle.methods.proofs.SendLaws.{no_failures, by_failures}
use Rattle.methods.proofs.failures_fine.Goals as goal

pub returns-then-not-has_messages : goal.returns-then-not-has_messages
returns-then-not-has_messages c = λ o h. ap not c.if-not-has_messages.true ∙ no_failures c.args.edition o (sym c.has_messages.ensures ∙ c.if-not-has_messages.true)

pub returns-else-not-has_messages : goal.returns-else-not-has_messages
returns-else-not-has_messages c = λ o h. c.takes_count.ensures o h refl ∙ by_failures c.args.edition o (sym c.has_messages.ensures ∙ c.if-not-has_messages.false)
