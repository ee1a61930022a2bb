-- `class_fine` is `shape_rules` of a class.
use Rattle.std.proofs.Common.{rules, tests}
use native.Mathlib.Omega.{arith}
use Rattle.bytecode.proofs.TestLaws.{true→T}
use Rattle.readers.proofs.InsideLaws.{class_inside}
use Rattle.rules.specs.Shape.{shape_rules}
use Rattle.rules.proofs.class_rules.class_fine.Goals as goal

pub word_of-s-requires : goal.word_of-s-requires
word_of-s-requires c = let p = c.requires in class_inside p.0 (true→T p.1) (omega arith)

pub word_of-d-requires : goal.word_of-d-requires
word_of-d-requires c = let p = c.requires in class_inside p.0 (true→T p.1) (omega arith)

pub word_of-fields-requires : goal.word_of-fields-requires
word_of-fields-requires c = let p = c.requires in class_inside p.0 (true→T p.1) (omega arith)

pub word_of-form-requires : goal.word_of-form-requires
word_of-form-requires c = let p = c.requires in class_inside p.0 (true→T p.1) (omega arith)

pub returns-then-rises_fine : goal.returns-then-rises_fine
unfolding shape_rules
returns-then-rises_fine c = search (tests, rules)

pub returns-else-rises_fine : goal.returns-else-rises_fine
unfolding shape_rules
returns-else-rises_fine c = search (tests, rules)
