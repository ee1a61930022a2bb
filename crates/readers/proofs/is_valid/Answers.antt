-- `is_valid` is `is_valid`.
use Rattle.std.proofs.Common.{rules, tests}
use Rattle.model.specs.Word.{is_valid}
use Rattle.readers.proofs.is_valid.Goals as goal

pub returns-then-w-eq1 : goal.returns-then-w-eq1
unfolding is_valid
returns-then-w-eq1 c = search (tests, rules)

pub returns-else-w-eq1 : goal.returns-else-w-eq1
unfolding is_valid
returns-else-w-eq1 c = search (tests, rules)
