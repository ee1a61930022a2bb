-- `jump` examines 144 to 175.
use mathlib.Core.Path.{refl}
use native.Mathlib.Omega.{arith}
use Rattle.flow.proofs.StepLaws.{step_yes}
use Rattle.flow.proofs.VisitLaws.{visits_one}
use Rattle.flow.proofs.HereLaws.{expand_jump, expand_fork, expand_long, expand_fork_long, expand_before, second_inside}
use Rattle.flow.proofs.jump.Goals as goal

pub returns-then-byte-lt152 : goal.returns-then-byte-lt152
returns-then-byte-lt152 c =
    expand_jump (omega arith) c.requires.stands c.requires.le_b.2 c.requires.le_b.0 c.if-byte-lt152.true
    (step_yes refl (visits_one _ c.visit.ensures))

pub returns-then-byte-lt160 : goal.returns-then-byte-lt160
returns-then-byte-lt160 c =
    expand_fork (omega arith) c.requires.stands c.requires.le_b.2 c.if-byte-lt152.false c.if-byte-lt160.true c.fork.ensures

pub fetch-x-requires : goal.fetch-x-requires
fetch-x-requires c =
    second_inside (omega arith) c.requires.stands c.if-byte-lt160.false c.requires.le_b.1 c.requires.le_b.2

pub returns-then-to-lt1024 : goal.returns-then-to-lt1024
returns-then-to-lt1024 c =
    expand_before (omega arith) c.requires.stands c.requires.le_b.2 c.if-byte-lt160.false
    c.if-byte-lt168.true (omega (arith, c.fetch-x.ensures, c.if-to-lt1024.true))

pub returns-then-byte-lt168 : goal.returns-then-byte-lt168
returns-then-byte-lt168 c =
    expand_long (omega arith) c.requires.stands c.requires.le_b.2 c.if-byte-lt160.false c.if-byte-lt168.true _
    (omega (arith, c.fetch-x.ensures, c.if-to-lt1024.false)) (step_yes refl (visits_one _ c.visit-then-byte-lt168.ensures))

pub returns : goal.returns
returns c =
    expand_fork_long (omega arith) c.requires.stands c.requires.le_b.2 c.if-byte-lt168.false c.requires.le_b.1
    (rw c.fetch-x.ensures at c.fork-2.ensures)
