use Rattle.std.proofs.Common.{rules}
use Rattle.bytecode.specs.Test.{when◌then◌else◌}
use Rattle.model.specs.Limits.{least_objects}
use Rattle.readers.proofs.edition.least_objects.Goals as goal

pub returns-then-has_messages : goal.returns-then-has_messages
unfolding least_objects when◌then◌else◌
returns-then-has_messages c = search rules

pub returns-else-has_messages : goal.returns-else-has_messages
unfolding least_objects when◌then◌else◌
returns-else-has_messages c = search rules
