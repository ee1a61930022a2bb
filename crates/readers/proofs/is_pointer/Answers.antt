-- `is_pointer` is `is_pointer`.
use Rattle.std.proofs.Common.{rules, tests}
use Rattle.model.specs.Word.{is_pointer}
use Rattle.readers.proofs.is_pointer.Goals as goal

pub returns-then-w-ge1 : goal.returns-then-w-ge1
unfolding is_pointer
returns-then-w-ge1 c = search (tests, rules)

pub returns-else-w-ge1 : goal.returns-else-w-ge1
unfolding is_pointer
returns-else-w-ge1 c = search (tests, rules)
