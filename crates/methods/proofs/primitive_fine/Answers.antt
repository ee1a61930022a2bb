use Rattle.std.proofs.Common.{rules, tests}
use Rattle.methods.specs.Passes.{primitive_rule}
use Rattle.methods.proofs.primitive_fine.Goals as goal

pub returns-then-flag-ne-PRIMITIVE : goal.returns-then-flag-ne-PRIMITIVE
unfolding primitive_rule
returns-then-flag-ne-PRIMITIVE c = search (tests, rules)

pub returns-else-flag-ne-PRIMITIVE : goal.returns-else-flag-ne-PRIMITIVE
unfolding primitive_rule
returns-else-flag-ne-PRIMITIVE c = search (tests, rules)
