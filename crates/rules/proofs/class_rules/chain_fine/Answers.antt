-- `chain_fine` is `chain_fine`.
use Rattle.std.proofs.Common.{rules, tests}
use Rattle.model.specs.Rules.{chain_fine}
use Rattle.rules.proofs.class_rules.chain_fine.Goals as goal

pub returns-then-kind-ne-CLASS : goal.returns-then-kind-ne-CLASS
unfolding chain_fine
returns-then-kind-ne-CLASS c = search (tests, rules)

pub returns-else-kind-ne-CLASS : goal.returns-else-kind-ne-CLASS
unfolding chain_fine
returns-else-kind-ne-CLASS c = search (tests, rules)
