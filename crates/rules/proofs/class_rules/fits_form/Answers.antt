use Rattle.std.proofs.Common.{rules, tests}
use Rattle.rules.specs.Shape.{fits_form}
use Rattle.bytecode.specs.Test.{when◌then◌else◌}
use Rattle.rules.proofs.class_rules.fits_form.Goals as goal

pub returns-then-of-eq-FIELDS : goal.returns-then-of-eq-FIELDS
unfolding fits_form when◌then◌else◌
returns-then-of-eq-FIELDS c = search (tests, rules)

pub returns-else-of-eq-FIELDS : goal.returns-else-of-eq-FIELDS
unfolding fits_form when◌then◌else◌
returns-else-of-eq-FIELDS c = search (tests, rules)

pub returns-then-of-eq-FIELDS-2 : goal.returns-then-of-eq-FIELDS-2
unfolding fits_form when◌then◌else◌
returns-then-of-eq-FIELDS-2 c = search (tests, rules)

pub returns-else-of-eq-FIELDS-2 : goal.returns-else-of-eq-FIELDS-2
unfolding fits_form when◌then◌else◌
returns-else-of-eq-FIELDS-2 c = search (tests, rules)

pub returns-in-2 : goal.returns-in-2
unfolding fits_form when◌then◌else◌
returns-in-2 c = search (tests, rules)

pub returns-then-of-ge-CLASS : goal.returns-then-of-ge-CLASS
unfolding fits_form when◌then◌else◌
returns-then-of-ge-CLASS c = search (tests, rules)

pub returns-else-of-ge-CLASS : goal.returns-else-of-ge-CLASS
unfolding fits_form when◌then◌else◌
returns-else-of-ge-CLASS c = search (tests, rules)

pub returns-in_default : goal.returns-in_default
unfolding fits_form when◌then◌else◌
returns-in_default c = search (tests, rules)
