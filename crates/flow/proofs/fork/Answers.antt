-- `fork` is a step that needs one operand, to two positions.
use borrow.Author.Tests.{le-leb, lt-leb}
use Rattle.flow.proofs.StepLaws.{step_yes, step_no}
use Rattle.flow.proofs.fork.Goals as goal

pub returns-then-depth-lt1 : goal.returns-then-depth-lt1
returns-then-depth-lt1 c = step_no (lt-leb _ _ c.if-depth-lt1.true)

pub returns : goal.returns
returns c = step_yes (le-leb _ _ c.if-depth-lt1.false) c.both.ensures
