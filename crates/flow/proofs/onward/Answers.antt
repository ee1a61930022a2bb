-- `onward` is a step to one position.
use borrow.Author.Tests.{le-leb, lt-leb}
use Rattle.flow.proofs.StepLaws.{step_yes, step_no}
use Rattle.flow.proofs.VisitLaws.{visits_one}
use Rattle.flow.proofs.onward.Goals as goal

pub returns-then-depth-need : goal.returns-then-depth-need
returns-then-depth-need c = step_no (lt-leb _ _ c.if-depth-need.true)

pub returns : goal.returns
returns c = step_yes (le-leb _ _ c.if-depth-need.false)
    (visits_one _ c.visit.ensures)
