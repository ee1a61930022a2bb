use Rattle.std.proofs.Common.{rules, tests}
use Rattle.rules.specs.Shape.{numbers_fine}
use Rattle.rules.proofs.class_rules.numbers_fine.Goals as goal

pub returns-then-form-lt-OF_BYTES : goal.returns-then-form-lt-OF_BYTES
unfolding numbers_fine
returns-then-form-lt-OF_BYTES c = search (tests, rules)

pub returns-else-form-lt-OF_BYTES : goal.returns-else-form-lt-OF_BYTES
unfolding numbers_fine
returns-else-form-lt-OF_BYTES c = search (tests, rules)

pub returns-else-is_natural-2 : goal.returns-else-is_natural-2
unfolding numbers_fine
returns-else-is_natural-2 c = search (tests, rules)
