use Rattle.std.proofs.Common.{arith}
use Rattle.bytecode.specs.Test.{when◌then◌else◌}
use Rattle.primitives.specs.Outcomes.{kind_of_elements}
use Rattle.primitives.proofs.Indexing.{other_form}
use Rattle.primitives.proofs.element_kind.Goals as goal

pub returns-in-1 : goal.returns-in-1
unfolding kind_of_elements when◌then◌else◌
returns-in-1 c = rw c.in-1.is

pub returns-in-2 : goal.returns-in-2
unfolding kind_of_elements when◌then◌else◌
returns-in-2 c = rw c.in-2.is

pub returns-in_default : goal.returns-in_default
returns-in_default c = other_form c.args.form (λ e. omega arith) (λ e. omega arith)
