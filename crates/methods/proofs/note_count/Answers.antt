use Rattle.std.proofs.Common.{rules, tests}
use Rattle.methods.specs.Counts.{Noted}
use Rattle.methods.proofs.note_count.Goals as goal

pub returns-then-fits : goal.returns-then-fits
unfolding Noted
returns-then-fits c = rw c.if-fits.true (search (tests, rules))

pub returns-else-fits : goal.returns-else-fits
unfolding Noted
returns-else-fits c = rw c.if-fits.false (search (tests, rules))
