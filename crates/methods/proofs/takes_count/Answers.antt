use mathlib.Core.Path.{◌∙◌}
use borrow.Author.Tests.{eq-eqb}
use Rattle.methods.proofs.SendLaws.{none_under, count_under}
use Rattle.methods.proofs.takes_count.Goals as goal

pub returns-then-note-eq0 : goal.returns-then-note-eq0
returns-then-note-eq0 c = λ o h e. eq-eqb _ _ c.if-note-eq0.true ∙ none_under c.args.counts.now c.args.selector c.args.arguments c.if-note-eq0.true o h e

pub returns-else-note-eq0 : goal.returns-else-note-eq0
returns-else-note-eq0 c = count_under c.args.counts.now c.args.selector c.args.arguments c.if-note-eq0.false
