-- `expand` examines the instruction at a position.
use mathlib.Core.Path.{◌≡◌}
use native.Mathlib.Omega.{arith}
use borrow.Author.Tests.{le-leb, lt-leb}
use Rattle.bytecode.specs.Table.{group_part}
use Rattle.flow.proofs.StepLaws.{step_no, step_none}
use Rattle.flow.proofs.HereLaws.{expand_plain, expand_return, expand_unused}
use Rattle.flow.proofs.expand.Goals as goal

pub returns-then-group-eq0 : goal.returns-then-group-eq0
returns-then-group-eq0 c =
    let group = rw c.group-group.ensures at c.if-group-eq0.true in
    expand_plain (omega arith) c.requires.stands group c.plain.ensures

pub returns-then-here-need : goal.returns-then-here-need
returns-then-here-need c =
    let group : group_part c.args.here.entry.0 ≡ 1 = omega (arith, c.group-group.ensures, c.if-group-lt2.true, c.if-group-eq0.false) in
    expand_return (omega arith) c.requires.stands group
    (step_no (rw c.need.ensures at (lt-leb _ _ c.if-here-need.true)))

pub returns-then-group-lt2 : goal.returns-then-group-lt2
returns-then-group-lt2 c =
    let group : group_part c.args.here.entry.0 ≡ 1 = omega (arith, c.group-group.ensures, c.if-group-lt2.true, c.if-group-eq0.false) in
    expand_return (omega arith) c.requires.stands group
    (step_none (rw c.need.ensures at (le-leb _ _ c.if-here-need.false)))

pub returns-then-group-gt2 : goal.returns-then-group-gt2
returns-then-group-gt2 c =
    let group = rw c.group-group.ensures at c.if-group-gt2.true in
    expand_unused (omega arith) c.requires.stands group
